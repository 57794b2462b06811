use Rattle.std.proofs.Common.{ℕ, ◌<◌}
use Rattle.join_graph.specs.declared.steps.Step.TheVariants.{Pattern}
use Rattle.join_graph.specs.Left.{HasTwoIfKept}
use Rattle.join_graph.proofs.removal.next_pattern.Given as goal

abbrev pub invariant-loop-place : goal.invariant-loop-place
invariant-loop-place l = (p : ℕ) → p < l.place → HasTwoIfKept l.sets l.left (Pattern p)
