use Rattle.std.proofs.Common.{◌≡◌, ◌+◌, drop}
use Rattle.pruning_laws.specs.Passes.{partner}
use Rattle.pruning_laws.specs.TreePasses.{are_near}
use Rattle.node_plans.proofs.removal.partner_of.Given as goal

abbrev pub invariant-loop-j : goal.invariant-loop-j
invariant-loop-j l = partner (are_near l.sets l.step) (drop (l.i + 1) l.order.steps) ≡ partner (are_near l.sets l.step) (drop l.j l.order.steps)
