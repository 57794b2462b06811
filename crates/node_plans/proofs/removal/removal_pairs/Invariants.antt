use Rattle.std.proofs.Common.{◌≡◌, ◌≤◌, ◌++◌, length, drop}
use Rattle.pruning_laws.specs.Plans.{pairs_by}
use Rattle.node_plans.proofs.removal.removal_pairs.Given as goal

abbrev pub invariant-loop-i : goal.invariant-loop-i
invariant-loop-i l = (l.pairs ++ pairs_by l.sets (drop l.i l.order.steps) ≡ pairs_by l.sets l.order.steps) × (length l.pairs ≤ l.i)
