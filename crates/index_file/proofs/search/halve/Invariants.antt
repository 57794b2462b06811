use Rattle.std.proofs.Common.{◌-◌}
use Rattle.index_file.specs.steps.Halving.{IsBetween}
use Rattle.index_file.proofs.search.halve.Given as goal

abbrev pub invariant-loop-low : goal.invariant-loop-low
invariant-loop-low l = IsBetween l.text l.texts l.low l.high

abbrev pub decreases-loop-low : goal.decreases-loop-low
decreases-loop-low l = l.high - l.low
