use Rattle.std.proofs.Common.{◌-◌, ◌^◌, arith}
use Rattle.cube_slices.proofs.SeekLaws.{IsPassed-line}
use Rattle.cube_slices.proofs.seek.guess.Goals as goal

pub gallop-requires-clause-passed : goal.gallop-requires-clause-passed
gallop-requires-clause-passed c =
    let there = c.row_number-row.ensures in
    IsPassed-line 0 (2 ^ 32 - 1) (2 ^ 32 - 1) c.args.n _ there.line c.args.slice.now _ c.requires.ascend there.at (omega (arith, there.is, c.if-row-n.true))

pub gallop-requires-then-row_number-n-clause-passed : goal.gallop-requires-then-row_number-n-clause-passed
gallop-requires-then-row_number-n-clause-passed c =
    let there = c.row_number.ensures in
    IsPassed-line 0 (2 ^ 32 - 1) (2 ^ 32 - 1) c.args.n _ there.line c.args.slice.now _ c.requires.ascend there.at (omega (arith, there.is, c.if-row_number-n.true))
