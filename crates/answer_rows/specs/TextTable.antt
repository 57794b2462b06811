-- Rows of texts, of so many columns: for each column a text, or nothing. They are no standard's.
use Rattle.std.specs.Prelude.{ℕ, ◌-◌, List, [], length, Some, slice_set, slice_index_or}
use Rattle.alg_model.specs.Row.{Row}

pub record TextTable : Type 0 where
  pub width : ℕ
  pub rows : List (Row (List ℕ))

-- the rows, where the last of them binds a column to a text, and all other cells are as they were
abbrev pub bound_last : ℕ → List ℕ → List (Row (List ℕ)) → List (Row (List ℕ))
bound_last column text rows =
    let last = length rows - 1 in
    slice_set rows last (slice_set (slice_index_or rows last []) column (Some text))
