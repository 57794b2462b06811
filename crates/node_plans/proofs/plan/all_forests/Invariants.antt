use Rattle.std.proofs.Common.{ℕ, ◌<◌}
use Rattle.node_plans.specs.NodePlan.{IsForestNode}
use Rattle.node_plans.proofs.plan.all_forests.Given as goal

abbrev pub invariant-loop-node : goal.invariant-loop-node
invariant-loop-node l = (k : ℕ) → k < l.node → IsForestNode l.tree k
