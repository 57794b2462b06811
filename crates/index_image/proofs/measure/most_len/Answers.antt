use Rattle.std.proofs.Common.{arith}
use Rattle.index_image.proofs.MeasureLaws.{slice_part_short}
use Rattle.index_image.proofs.measure.most_len.Goals as goal

pub returns-in-Ok : goal.returns-in-Ok
returns-in-Ok c =
    let short = slice_part_short c.args.form c.args.numbers.now in
    (omega (arith, short, c.slice_count.ensures.count, c.triples.ensures, c.in-Ok.ensures), omega (arith, c.in-Ok.ensures))
