use Rattle.std.proofs.Common.{drop, map}
use Rattle.serde.specs.Event.{Log}
use Rattle.serde_json.specs.Events.{SendsMembers}
use Rattle.result_write.specs.held.NamedColumns.{named}
use Rattle.result_write.specs.held.RowData.{bound_data}
use Rattle.result_write.proofs.json_row.send_row.Given as goal

-- whatever ends it well from here ends it well from the start
abbrev pub invariant-loop-column : goal.invariant-loop-column
invariant-loop-column g l =
    (end : Log) → SendsMembers (bound_data l.cells (map named (drop l.column-index l.columns))) (g.S.Serializer.written l.out) end
    → SendsMembers (bound_data l.cells (map named l.columns)) (g.S.Serializer.written l.initial.out) end
