use Rattle.std.proofs.Common.{◌-◌, ◌^◌, arith}
use Rattle.cube_slices.proofs.SeekLaws.{Seeks-upper}
use Rattle.cube_slices.proofs.seek.halve.Goals as goal

pub loop-low-preserved-then-row_number-n : goal.loop-low-preserved-then-row_number-n
loop-low-preserved-then-row_number-n c =
    let there = c.row_number.ensures in
    Seeks-upper (2 ^ 32 - 1) (2 ^ 32 - 1) c.args.n _ _ _ there.line _ c.requires.ascend (omega arith) there.at (omega (arith, there.is)) c.loop-low.invariant
