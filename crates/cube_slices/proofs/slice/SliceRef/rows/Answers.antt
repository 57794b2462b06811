use Rattle.std.proofs.Common.{length, ap, arith}
use Rattle.cube_slices.proofs.SliceLaws.{length-shown, lines_of_shown}
use Rattle.cube_slices.proofs.slice.SliceRef.rows.Goals as goal

pub returns-clause-count : goal.returns-clause-count
returns-clause-count c =
    omega (arith, length-shown c.self.inside.form c.self.inside.entries.now c.self.inside.row_bytes.now c.self.invariant.0, ap length c.self.view_is)

pub returns-clause-ascend : goal.returns-clause-ascend
returns-clause-ascend c = rw (← c.self.view_is) (lines_of_shown _ _ _ c.self.invariant.0)
