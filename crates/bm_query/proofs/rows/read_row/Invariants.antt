use Rattle.std.proofs.Common.{◌≡◌, take}
use Rattle.engine_laws.specs.Terms.{text_at}
use Rattle.naming_laws.specs.Naming.{named_row}
use Rattle.pattern_tree.specs.FlatTable.{row_of}
use Rattle.bm_query.proofs.rows.read_row.Given as goal

abbrev pub invariant-loop-number : goal.invariant-loop-number
invariant-loop-number l = l.cells.items ≡ named_row (text_at l.index.numbering.terms) (row_of (take l.number-index l.numbers))
