use Rattle.std.proofs.Common.{length, ap, arith}
use Rattle.cube_slices.proofs.SliceLaws.{length-shown}
use Rattle.cube_slices.proofs.SeekLaws.{RowAt-entry}
use Rattle.cube_slices.proofs.slice.SliceRef.row_number.Goals as goal

pub pair_at-row-requires : goal.pair_at-row-requires
pair_at-row-requires c =
    omega (arith, length-shown c.self.inside.form c.self.inside.entries.now c.self.inside.row_bytes.now c.self.invariant.0, ap length c.self.view_is)

pub returns : goal.returns
returns c = rw (← c.self.view_is) (RowAt-entry _ _ _ _ _ c.self.invariant.0 c.pair_at-row.ensures)
