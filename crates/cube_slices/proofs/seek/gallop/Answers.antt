use Rattle.std.proofs.Common.{◌-◌, ◌^◌, arith}
use Rattle.cube_slices.proofs.SeekLaws.{IsPassed-line}
use Rattle.cube_slices.proofs.seek.gallop.Goals as goal

pub loop-step-preserved : goal.loop-step-preserved
loop-step-preserved c =
    let there = c.row_number.ensures in
    let before = c.loop-step.invariant.0 in (
      omega (arith, c.loop-step-test.true, c.rows-rows.ensures.count),
      IsPassed-line 0 (2 ^ 32 - 1) (2 ^ 32 - 1) c.args.n _ there.line c.args.slice.now _ c.requires.ascend there.at (omega (arith, there.is, c.if-row_number-n.false)),
    )
