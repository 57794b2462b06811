use Rattle.std.proofs.Common.{drop, map, string_bytes}
use Rattle.serde.specs.Event.{Log}
use Rattle.serde_json.specs.Events.{SendsItems}
use Rattle.result_write.specs.held.Written.{names_data}
use Rattle.result_write.proofs.json_row.send_names.Given as goal

-- whatever ends it well from here ends it well from the start
abbrev pub invariant-loop-name : goal.invariant-loop-name
invariant-loop-name g l =
    (end : Log) → SendsItems (names_data (map string_bytes (drop l.name-index l.names))) (g.S.Serializer.written l.out) end
    → SendsItems (names_data (map string_bytes l.names)) (g.S.Serializer.written l.initial.out) end
