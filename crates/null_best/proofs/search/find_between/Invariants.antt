use Rattle.std.proofs.Common.{◌-◌}
use Rattle.null_best.specs.steps.Searches.{IsWindow}
use Rattle.null_best.proofs.search.find_between.Given as goal

abbrev pub invariant-loop-low : goal.invariant-loop-low
invariant-loop-low l = IsWindow l.keys l.group l.cut l.low l.high

abbrev pub decreases-loop-low : goal.decreases-loop-low
decreases-loop-low l = l.high - l.low
