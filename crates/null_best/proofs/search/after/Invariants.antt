use Rattle.std.proofs.Common.{◌<◌, ◌-◌}
use Rattle.null_best.specs.steps.Searches.{IsWindow}
use Rattle.null_best.proofs.search.after.Given as goal

abbrev pub invariant-loop-step : goal.invariant-loop-step
invariant-loop-step l = (0 < l.step) × (l.low < l.group.end) × IsWindow l.keys l.group l.cut l.low l.group.end

abbrev pub decreases-loop-step : goal.decreases-loop-step
decreases-loop-step l = l.group.end - l.low
