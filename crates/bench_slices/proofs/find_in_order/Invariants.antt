use Rattle.std.proofs.Common.{◌-◌, ◌≤◌, length}
use Rattle.cube_slices.specs.Lines.{IsPassed}
use Rattle.bench_slices.proofs.find_in_order.Given as goal

abbrev pub invariant-loop-n : goal.invariant-loop-n
invariant-loop-n l = (l.place ≤ length l.slice) × IsPassed l.n l.place l.slice

abbrev pub decreases-loop-n : goal.decreases-loop-n
decreases-loop-n l = 2097152 - l.n
