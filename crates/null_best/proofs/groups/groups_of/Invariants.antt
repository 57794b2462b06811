use Rattle.std.proofs.Common.{◌≤◌, ◌-◌, length}
use Rattle.null_best.specs.steps.Groups.{AreGroupsBelow}
use Rattle.null_best.proofs.groups.groups_of.Given as goal

abbrev pub invariant-loop-start : goal.invariant-loop-start
invariant-loop-start l = (l.start ≤ length l.keys) × AreGroupsBelow l.keys l.groups.items l.start

abbrev pub decreases-loop-start : goal.decreases-loop-start
decreases-loop-start l = length l.keys - l.start
