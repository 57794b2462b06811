use Rattle.std.proofs.Common.{length}
use Rattle.cube_slices.proofs.FoldLaws.{IsFoldingRows}
use Rattle.cube_slices.proofs.folds.rows_of_lines.Given as goal

abbrev pub invariant-loop-number : goal.invariant-loop-number
invariant-loop-number l = IsFoldingRows (length l.fn.into) l.keep l.initial.lines l.into l.lines

abbrev pub decreases-loop-number : goal.decreases-loop-number
decreases-loop-number l = length l.lines
