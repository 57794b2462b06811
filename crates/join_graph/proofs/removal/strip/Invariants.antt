use Rattle.join_graph.specs.Left.{IsKept}
use Rattle.join_graph.proofs.Removals.{IsUnderWay}
use Rattle.join_graph.proofs.removal.strip.Given as goal

abbrev pub invariant-loop-step : goal.invariant-loop-step
invariant-loop-step l = IsUnderWay l.sets (IsKept l.left) l.order

abbrev pub decreases-loop-step : goal.decreases-loop-step
decreases-loop-step l = l.order.core
