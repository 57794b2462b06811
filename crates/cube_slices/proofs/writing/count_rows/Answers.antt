use Rattle.std.proofs.Common.{length, ap, arith}
use Rattle.cube_slices.proofs.WritingLaws.{length-lines_of-le}
use Rattle.cube_slices.proofs.writing.count_rows.Goals as goal

pub overflow_add-rows : goal.overflow_add-rows
overflow_add-rows c =
    let first = ap length c.split_row.ensures.line in
    omega (arith, c.loop-rest.invariant, first, length-lines_of-le c.args.pairs.now)
