use Rattle.std.proofs.Common.{arith}
use Rattle.join_graph.specs.declared.steps.Step.TheVariants.{Pattern}
use Rattle.join_graph.proofs.removal.next_pattern.Goals as goal

pub returns-clause-none : goal.returns-clause-none
returns-clause-none c = λ p kept. c.loop-place.invariant p (omega (arith, c.requires.members (Pattern p) kept)) kept
