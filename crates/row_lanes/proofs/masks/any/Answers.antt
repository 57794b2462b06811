use Rattle.std.proofs.Common.{arith}
use Rattle.row_lanes.proofs.LeastLaws.{some_from_first_set}
use Rattle.row_lanes.proofs.masks.any.Goals as goal

pub returns : goal.returns
returns c =
    rw c.is_some.ensures (some_from_first_set c.args.words.now c.first_set.result (λ k. omega (arith, c.type_inv.words k)) c.first_set.ensures)
