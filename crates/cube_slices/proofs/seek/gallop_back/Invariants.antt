use Rattle.cube_slices.specs.steps.Seeks.{Seeks}
use Rattle.cube_slices.proofs.seek.gallop_back.Given as goal

abbrev pub invariant-loop-step : goal.invariant-loop-step
invariant-loop-step l = Seeks l.n l.slice 0 l.high

abbrev pub decreases-loop-step : goal.decreases-loop-step
decreases-loop-step l = l.high
