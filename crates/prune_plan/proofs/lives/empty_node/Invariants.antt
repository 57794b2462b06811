use Rattle.prune_plan.proofs.Clearing.{AreCleared}
use Rattle.prune_plan.proofs.lives.empty_node.Given as goal

abbrev pub invariant-loop-i : goal.invariant-loop-i
invariant-loop-i l = AreCleared l.fn.prepared l.patterns l.i l.prepared
