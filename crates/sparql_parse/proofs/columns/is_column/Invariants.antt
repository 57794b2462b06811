-- none of the columns before is the variable
use Rattle.std.proofs.Common.{◌≡◌, ◌==◌, false, map, take}
use Rattle.std.specs.List.{list_any}
use Rattle.sparql_parse.proofs.columns.is_column.Given as goal

abbrev pub invariant-loop-i : goal.invariant-loop-i
invariant-loop-i l = list_any (λ number. number == l.var.0) (map (λ column. column.0) (take l.i l.columns)) ≡ false
