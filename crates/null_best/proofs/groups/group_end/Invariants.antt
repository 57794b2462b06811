use Rattle.std.proofs.Common.{◌<◌, ◌-◌, length}
use Rattle.null_best.specs.steps.Groups.{BindSet, row_at}
use Rattle.null_best.specs.steps.Keys.{bound_set}
use Rattle.null_best.proofs.groups.group_end.Given as goal

abbrev pub invariant-loop-end : goal.invariant-loop-end
invariant-loop-end l = (l.start < l.end) × BindSet l.keys (bound_set (row_at l.keys l.start)) l.start l.end

abbrev pub decreases-loop-end : goal.decreases-loop-end
decreases-loop-end l = length l.keys - l.end
