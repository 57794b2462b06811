use Rattle.cube_slices.proofs.SliceLaws.{lines_of_shown}
use Rattle.cube_slices.proofs.slice.SliceRef.lines.Goals as goal

pub returns-clause-ascend : goal.returns-clause-ascend
returns-clause-ascend c = rw (← c.self.view_is) (lines_of_shown _ _ _ c.self.invariant.0)
