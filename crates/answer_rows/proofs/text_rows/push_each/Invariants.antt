use Rattle.std.proofs.Common.{◌≡◌, ◌++◌, take}
use Rattle.answer_rows.proofs.text_rows.push_each.Given as goal

abbrev pub invariant-loop-cell : goal.invariant-loop-cell
invariant-loop-cell l = l.cells.items ≡ l.initial.cells.items ++ take l.cell-index l.row
