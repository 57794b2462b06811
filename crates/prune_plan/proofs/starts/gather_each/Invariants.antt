use Rattle.prune_plan.proofs.GatherLaws.{AreGathered}
use Rattle.prune_plan.proofs.starts.gather_each.Given as goal

abbrev pub invariant-loop-var : goal.invariant-loop-var
invariant-loop-var l = AreGathered l.fn.prepared l.fn.kinds l.place l.vars l.var l.prepared l.kinds
