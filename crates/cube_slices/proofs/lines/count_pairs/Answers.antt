use Rattle.std.proofs.Common.{◌-◌, ◌^◌, length, ap, arith}
use Rattle.cube_slices.specs.Lines.{pairs_of}
use Rattle.cube_slices.proofs.LineLaws.{length-lines-le}
use Rattle.cube_slices.proofs.PairLaws.{length-pairs_of-first, length-pairs_of-le}
use Rattle.cube_slices.proofs.lines.count_pairs.Goals as goal

pub overflow_add-total : goal.overflow_add-total
overflow_add-total c =
    let first = ap (λ ls. length (pairs_of ls)) c.in-Some.ensures.first in
    let few = length-lines-le 0 (2 ^ 32 - 1) (2 ^ 32 - 1) c.args.lines c.requires in
    let all = length-pairs_of-le 0 (2 ^ 32 - 1) (2 ^ 32 - 1) c.args.lines (omega arith) c.requires in
    omega (arith, c.loop-row.invariant, first, length-pairs_of-first (record { row = c.in-Some.field-0-0; columns = c.in-Some.row }) c.in-Some.rest, c.count.ensures.count, c.from-total.ensures)
