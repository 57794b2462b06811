-- Carries proofs only: the columns that the code keeps.
use Rattle.std.specs.Prelude.{ℕ, List, string_bytes}
use Rattle.result_write.specs.declared.column.Column.{Column}

-- the name of a column, and its place
abbrev pub named : Column → List ℕ × ℕ
named column = (string_bytes column.name, column.place)
