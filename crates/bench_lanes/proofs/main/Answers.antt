use Rattle.std.proofs.Common.{arith}
use Rattle.run_rows.proofs.RowLaws.{row_below}
use Rattle.bench_lanes.proofs.main.Goals as goal

pub time_row-requires-clause-fits : goal.time_row-requires-clause-fits
time_row-requires-clause-fits c k d within =
    omega (arith, row_below _ c.in-Some.row c.in-Some.ensures.found.row k d within)
