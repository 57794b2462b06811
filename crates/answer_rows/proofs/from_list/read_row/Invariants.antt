use Rattle.std.proofs.Common.{◌≡◌, [], take, slice_index_or}
use Rattle.answer_rows.proofs.from_list.read_row.Given as goal

abbrev pub invariant-loop-column : goal.invariant-loop-column
invariant-loop-column l = l.cells.items ≡ take l.column (slice_index_or l.list l.row [])
