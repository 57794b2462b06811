use Rattle.std.proofs.Common.{arith}
use Rattle.null_best.specs.steps.Keys.{head_of}
use Rattle.null_best.proofs.row_key.head_of.Goals as goal

pub returns : goal.returns
unfolding head_of
returns c =
    let first = c.cell_at.ensures in
    let second = c.cell_at-2.ensures in
    let wide = c.from.ensures in
    let wide_too = c.from-2.ensures in
    omega arith
