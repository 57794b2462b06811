use Rattle.std.proofs.Common.{map, string_bytes}
use Rattle.result_write.specs.held.NamedColumns.{named}
use Rattle.result_write.proofs.ColumnLaws.{sorted_columns}
use Rattle.result_write.proofs.column.columns_by_name.Goals as goal

pub returns : goal.returns
returns c =
    sorted_columns named (map string_bytes c.args.names.now) c.in_ok-columns.columns.items c.sort_unstable.new.self.items
    c.in_ok-columns.ensures c.sort_unstable.ensures.permutation c.sort_unstable.ensures.sorted
