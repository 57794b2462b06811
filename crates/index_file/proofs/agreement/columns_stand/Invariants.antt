use Rattle.std.proofs.Common.{◌↔◌}
use Rattle.index_file.specs.steps.Rows.{ColumnsStand}
use Rattle.index_file.proofs.agreement.columns_stand.Given as goal

abbrev pub invariant-loop-column : goal.invariant-loop-column
invariant-loop-column l =
    ColumnsStand l.n l.r l.others l.row ↔ ColumnsStand l.n l.r l.others l.column-iterator
