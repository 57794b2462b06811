use Rattle.prune_plan.proofs.AskedOnce.{AreAsked}
use Rattle.prune_plan.proofs.starts.gather_once.Given as goal

abbrev pub invariant-loop-place : goal.invariant-loop-place
invariant-loop-place l = AreAsked l.tree l.parent l.fn.prepared l.fn.kinds l.wanted l.place l.left l.prepared l.kinds
