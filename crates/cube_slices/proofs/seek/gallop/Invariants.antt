use Rattle.std.proofs.Common.{◌-◌, ◌≤◌, length}
use Rattle.cube_slices.specs.Lines.{IsPassed}
use Rattle.cube_slices.proofs.seek.gallop.Given as goal

abbrev pub invariant-loop-step : goal.invariant-loop-step
invariant-loop-step l = (l.low ≤ length l.slice) × IsPassed l.n l.low l.slice

abbrev pub decreases-loop-step : goal.decreases-loop-step
decreases-loop-step l = length l.slice - l.low
