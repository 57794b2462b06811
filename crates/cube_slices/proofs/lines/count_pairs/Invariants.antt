use Rattle.std.proofs.Common.{◌≡◌, ◌+◌, length}
use Rattle.cube_slices.specs.Lines.{pairs_of}
use Rattle.cube_slices.proofs.lines.count_pairs.Given as goal

abbrev pub invariant-loop-row : goal.invariant-loop-row
invariant-loop-row l = l.total + length (pairs_of l.lines) ≡ length (pairs_of l.initial.lines)

abbrev pub decreases-loop-row : goal.decreases-loop-row
decreases-loop-row l = length l.lines
