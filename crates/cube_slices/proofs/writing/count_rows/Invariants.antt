use Rattle.std.proofs.Common.{◌≡◌, ◌+◌, length}
use Rattle.cube_slices.specs.Pairs.{lines_of}
use Rattle.cube_slices.proofs.writing.count_rows.Given as goal

abbrev pub invariant-loop-rest : goal.invariant-loop-rest
invariant-loop-rest l = l.rows + length (lines_of l.rest) ≡ length (lines_of l.pairs)

abbrev pub decreases-loop-rest : goal.decreases-loop-rest
decreases-loop-rest l = length l.rest
