-- Folds: the rows or the columns of those pairs that a mask keeps.
use Rattle.std.specs.Prelude.{ℕ, List, Contains}
use Rattle.row_lanes.specs.Words.{Has}
use Rattle.cube_slices.specs.Lines.{Line, pairs_of}

-- row n has a pair whose column is in the mask
abbrev pub IsRowKept : List ℕ → List Line → ℕ → Type 0
IsRowKept keep ls n = (c : ℕ) × Contains (pairs_of ls) (n, c) × Has keep c

-- column c has a pair whose row is in the mask
abbrev pub IsColumnKept : List ℕ → List Line → ℕ → Type 0
IsColumnKept keep ls c = (n : ℕ) × Contains (pairs_of ls) (n, c) × Has keep n
