-- The names of the columns of a result.
use Rattle.std.specs.Prelude.{ℕ, List, [], map, slice_index_or}
use Rattle.alg_model.specs.declared.var.Var.{Var}
use Rattle.alg_model.specs.Query.{AbstractQuery}

-- the name of a variable, without its mark; empty where the names have none for it
abbrev pub name_of : List (List ℕ) → Var → List ℕ
name_of names var = slice_index_or names var.0 []

-- the columns' names, in order
abbrev pub column_names : AbstractQuery → List (List ℕ)
column_names query = map (name_of query.names) query.columns
