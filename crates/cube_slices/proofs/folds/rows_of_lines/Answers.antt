use Rattle.cube_slices.proofs.FoldLaws.{IsFoldingRows-next}
use Rattle.cube_slices.proofs.folds.rows_of_lines.Goals as goal

pub loop-number-preserved : goal.loop-number-preserved
loop-number-preserved c =
    IsFoldingRows-next _ c.args.keep.now c.args.lines _ _ c.in-Some.number c.in-Some.row _ c.in-Some.rest c.in-Some.ensures.first c.keep_row.ensures.same_length c.keep_row.ensures.either c.loop-number.invariant
