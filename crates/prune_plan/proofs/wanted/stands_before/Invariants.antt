use Rattle.std.proofs.Common.{◌≡◌, ◌≢◌, ℕ, ◌<◌, Some}
use Rattle.std.specs.Prelude.{slice_get}
use Rattle.join_graph.specs.declared.steps.Step.TheVariants.{Variable}
use Rattle.join_graph.specs.Members.{Member}
use Rattle.prune_plan.proofs.wanted.stands_before.Given as goal

abbrev pub invariant-loop-k : goal.invariant-loop-k
invariant-loop-k l = (j : ℕ) (m n : Member) → j < l.k → slice_get l.pairs j ≡ Some (m, n) → (m ≢ Variable l.variable) × (n ≢ Variable l.variable)
