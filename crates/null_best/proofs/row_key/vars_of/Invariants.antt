use Rattle.std.proofs.Common.{◌≡◌, ◌≤◌, length, drop}
use Rattle.null_best.specs.steps.Keys.{bound_set}
use Rattle.null_best.proofs.row_key.vars_of.Given as goal

abbrev pub invariant-loop-k : goal.invariant-loop-k
invariant-loop-k l = (l.k ≤ length l.cells) × (l.vars ≡ bound_set (drop l.k l.cells))

abbrev pub decreases-loop-k : goal.decreases-loop-k
decreases-loop-k l = l.k
