use Rattle.prune_plan.proofs.Pruned.{IsReached}
use Rattle.mask_steps.specs.Measure.{mask_bits}
use Rattle.std.proofs.Common.{◌≡◌}
use Rattle.prune_plan.proofs.rounds.take_rounds.Given as goal

abbrev pub invariant-loop-before : goal.invariant-loop-before
invariant-loop-before l = (l.before ≡ mask_bits l.prepared) × IsReached l.tree l.fn.prepared l.prepared

abbrev pub decreases-loop-before : goal.decreases-loop-before
decreases-loop-before l = l.before
