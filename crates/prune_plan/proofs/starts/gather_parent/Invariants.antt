use Rattle.prune_plan.proofs.GatherLaws.{AreTaken}
use Rattle.prune_plan.proofs.starts.gather_parent.Given as goal

abbrev pub invariant-loop-place : goal.invariant-loop-place
invariant-loop-place l = AreTaken l.tree l.parent l.fn.prepared l.fn.kinds l.wanted l.place l.prepared l.kinds
