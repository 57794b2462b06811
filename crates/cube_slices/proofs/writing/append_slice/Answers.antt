use Rattle.cube_slices.proofs.WritingLaws.{EncodesLines-pairs}
use Rattle.cube_slices.proofs.writing.append_slice.Goals as goal

pub returns-then-is_err-clause-slice : goal.returns-then-is_err-clause-slice
returns-then-is_err-clause-slice c = EncodesLines-pairs c.args.form c.args.pairs.now c.requires.few c.requires.pairs

pub returns-else-is_err-clause-slice : goal.returns-else-is_err-clause-slice
returns-else-is_err-clause-slice c = EncodesLines-pairs c.args.form c.args.pairs.now c.requires.few c.requires.pairs
