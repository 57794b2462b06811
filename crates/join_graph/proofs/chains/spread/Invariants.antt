use Rattle.std.proofs.Common.{ℕ, ◌≤◌, ◌↔◌}
use Rattle.join_graph.specs.Members.{HasVariable}
use Rattle.join_graph.proofs.Joins.{SpreadBelow}
use Rattle.join_graph.proofs.chains.spread.Given as goal

abbrev pub invariant-loop-set : goal.invariant-loop-set
invariant-loop-set l = (l.reached ≤ l.wider) × ((v : ℕ) → HasVariable l.wider v ↔ SpreadBelow l.sets l.set-index (HasVariable l.reached) v)
