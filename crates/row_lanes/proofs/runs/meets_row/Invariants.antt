use Rattle.row_lanes.proofs.RowLaws.{IsMeeting}
use Rattle.row_lanes.proofs.runs.meets_row.Given as goal

abbrev pub invariant-loop-run : goal.invariant-loop-run
invariant-loop-run l = IsMeeting l.words l.row l.run-iterator
