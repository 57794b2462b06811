-- How the pairs of a slice are taken row by row when it is written.
use Rattle.std.specs.Prelude.{◌≡◌, ℕ, ◌+◌, ◌-◌, ◌^◌, ◌==◌, List, [], ◌∷◌, ◌++◌, length, map, if◌then◌else◌}
use Rattle.std.specs.List.{flat_map}
use Rattle.byte_tables.specs.Pairs.{pair_bytes}
use Rattle.byte_tables.specs.Writing.{BeginsWith}
use Rattle.run_rows.specs.declared.form.RowForm.{RowForm}
use Rattle.cube_slices.specs.Lines.{Line, LinesAscend}
use Rattle.cube_slices.specs.Slices.{bytes_of_lines, entries_of}

-- how many pairs of the row stand in front
abbrev pub line_length : ℕ → List (ℕ × ℕ) → ℕ
line_length row [] = 0
line_length row (p ∷ ps) = if p.0 == row then line_length row ps + 1 else 0

-- the columns of pairs
abbrev pub columns_of : List (ℕ × ℕ) → List ℕ
columns_of ps = map (λ p. p.1) ps

-- The entries that are out, with those of the lines that are left, are those of all lines.
pub record IsListing (form : RowForm) (all : List Line) (before out : List ℕ) (end : ℕ) (left : List Line) : Type 0 where
  pub written : out ++ flat_map pair_bytes (entries_of form end left) ≡ before ++ flat_map pair_bytes (entries_of form 0 all)
  pub ends : end + length (bytes_of_lines form left) ≡ length (bytes_of_lines form all)
  pub ascend : LinesAscend 0 (2 ^ 32 - 1) (2 ^ 32 - 1) left
  pub kept : BeginsWith out before

-- The rows that are out, with those of the lines that are left, are those of all lines.
pub record IsFilling (form : RowForm) (all : List Line) (before out : List ℕ) (left : List Line) : Type 0 where
  pub written : out ++ bytes_of_lines form left ≡ before ++ bytes_of_lines form all
  pub ascend : LinesAscend 0 (2 ^ 32 - 1) (2 ^ 32 - 1) left
  pub kept : BeginsWith out before
