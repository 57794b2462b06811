use Rattle.std.proofs.Common.{◌≡◌, map, take, string_bytes}
use Rattle.result_write.specs.JsonResult.{columns_of}
use Rattle.result_write.specs.held.NamedColumns.{named}
use Rattle.result_write.proofs.column.columns_of.Given as goal

abbrev pub invariant-loop-place : goal.invariant-loop-place
invariant-loop-place l = map named l.columns.items ≡ columns_of (map string_bytes (take l.place l.names))
