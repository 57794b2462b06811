use Rattle.std.proofs.Common.{◌≡◌, map, take, string_bytes}
use Rattle.result_write.specs.Columns.{name_of}
use Rattle.result_write.proofs.write.column_names.Given as goal

abbrev pub invariant-loop-i : goal.invariant-loop-i
invariant-loop-i l = map string_bytes l.names.items ≡ map (name_of l.query.names) (take l.i l.query.columns)
