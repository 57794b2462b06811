-- Rows of numbers, for so many variables. A value is a number: the place of a term in the term table of an index.
use Rattle.std.specs.Prelude.{ℕ, zero, suc, List, map, Option, Some, None}
use Rattle.alg_model.specs.Row.{Row}

pub record FlatTable : Type 0 where
  pub vars : ℕ
  pub rows : List (Row ℕ)

-- the number of a cell: 0 is unbound, and v + 1 is the value v
abbrev pub cell_of : ℕ → Option ℕ
cell_of zero = None
cell_of (suc value) = Some value

-- the row of some numbers of cells
abbrev pub row_of : List ℕ → Row ℕ
row_of cells = map cell_of cells
