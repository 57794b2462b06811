use Rattle.std.proofs.Common.{length}
use Rattle.cube_slices.proofs.FoldLaws.{IsFoldingColumns}
use Rattle.cube_slices.proofs.folds.columns_of_lines.Given as goal

abbrev pub invariant-loop-number : goal.invariant-loop-number
invariant-loop-number l = IsFoldingColumns (length l.fn.into) l.keep l.initial.lines l.into l.lines

abbrev pub decreases-loop-number : goal.decreases-loop-number
decreases-loop-number l = length l.lines
