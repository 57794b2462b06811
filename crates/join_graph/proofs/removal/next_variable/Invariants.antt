use Rattle.std.proofs.Common.{ℕ, ◌<◌}
use Rattle.join_graph.specs.declared.steps.Step.TheVariants.{Variable}
use Rattle.join_graph.specs.Left.{HasTwoIfKept}
use Rattle.join_graph.proofs.removal.next_variable.Given as goal

abbrev pub invariant-loop-variable : goal.invariant-loop-variable
invariant-loop-variable l = (v : ℕ) → v < l.variable → HasTwoIfKept l.sets l.left (Variable v)
