use Rattle.std.proofs.Common.{◌-◌}
use Rattle.cube_slices.specs.steps.Seeks.{Seeks}
use Rattle.cube_slices.proofs.seek.halve.Given as goal

abbrev pub invariant-loop-low : goal.invariant-loop-low
invariant-loop-low l = Seeks l.n l.slice l.low l.high

abbrev pub decreases-loop-low : goal.decreases-loop-low
decreases-loop-low l = l.high - l.low
