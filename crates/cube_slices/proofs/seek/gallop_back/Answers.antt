use Rattle.std.proofs.Common.{◌-◌, ◌^◌, arith}
use Rattle.cube_slices.proofs.SeekLaws.{Seeks-upper}
use Rattle.cube_slices.proofs.seek.gallop_back.Goals as goal

pub returns-then-row_number-n : goal.returns-then-row_number-n
returns-then-row_number-n c =
    let there = c.row_number.ensures in
    Seeks-upper (2 ^ 32 - 1) (2 ^ 32 - 1) c.args.n _ _ _ there.line _ c.requires.ascend (omega (arith, c.loop-step-test.true)) there.at (omega (arith, there.is, c.if-row_number-n.true)) c.loop-step.invariant
