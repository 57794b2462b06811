use Rattle.std.proofs.Common.{ℕ, ◌↔◌}
use Rattle.join_graph.specs.Members.{HasVariable}
use Rattle.join_graph.proofs.Members.{OccursBelow}
use Rattle.join_graph.proofs.variables.variables_of.Given as goal

abbrev pub invariant-loop-set : goal.invariant-loop-set
invariant-loop-set l = (v : ℕ) → HasVariable l.all v ↔ OccursBelow l.sets l.set-index v
