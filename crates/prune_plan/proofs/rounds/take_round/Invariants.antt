use Rattle.std.proofs.Common.{ℕ, ◌<◌}
use Rattle.std.specs.Prelude.{IsTrue}
use Rattle.prune_plan.specs.steps.Nodes.{HasLevel}
use Rattle.prune_plan.proofs.Pruned.{IsRoundBelow}
use Rattle.prune_plan.proofs.rounds.take_round.Given as goal

abbrev pub invariant-loop-node : goal.invariant-loop-node
invariant-loop-node l = IsRoundBelow l.tree l.fn.prepared l.node l.prepared × (IsTrue l.once → (j : ℕ) → j < l.node → HasLevel l.tree l.prepared j)
