use Rattle.std.proofs.Common.{◌≡◌, None, replicate}
use Rattle.alg_model.proofs.row.Row.unbound.Given as goal

abbrev pub invariant-loop : goal.invariant-loop
invariant-loop l = l.cells.items ≡ replicate l.counter None
