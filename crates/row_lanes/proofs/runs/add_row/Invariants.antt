use Rattle.std.proofs.Common.{length}
use Rattle.row_lanes.proofs.RowLaws.{IsAddingRow}
use Rattle.row_lanes.proofs.runs.add_row.Given as goal

abbrev pub invariant-loop-run : goal.invariant-loop-run
invariant-loop-run l = IsAddingRow (length l.initial.into) l.initial.into l.into l.row l.run-iterator
