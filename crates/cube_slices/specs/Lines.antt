-- Lines: a sparse matrix as the list of its rows that have a member.
use Rattle.std.specs.Prelude.{◌≡◌, ℕ, ◌+◌, ◌<◌, ◌≤◌, ◌==◌, List, [], ◌∷◌, length, drop, map, Option, Some, None, if◌then◌else◌}
use Rattle.std.specs.List.{flat_map}
use Rattle.run_rows.specs.Row.{IsRow}

-- a row, by its number, and the numbers of its columns
pub record Line : Type 0 where
  pub row : ℕ
  pub columns : List ℕ

-- the row numbers ascend strictly, from low on, and stay below rows; each line is a row of so many columns
abbrev pub LinesAscend : ℕ → ℕ → ℕ → List Line → Type 0
LinesAscend low rows columns [] = Unit {0}
LinesAscend low rows columns (l ∷ ls) =
    (low ≤ l.row) × (l.row < rows) × IsRow columns l.columns × LinesAscend (l.row + 1) rows columns ls

-- there is a line, and the lines ascend
pub record AreLines (rows columns : ℕ) (ls : List Line) : Type 0 where
  pub some : 0 < length ls
  pub ascend : LinesAscend 0 rows columns ls

-- the columns of row n, where it has a line
abbrev pub line_of : ℕ → List Line → Option (List ℕ)
line_of n [] = None
line_of n (l ∷ ls) = if l.row == n then Some l.columns else line_of n ls

-- the lines before the place are passed: each row from n on has its line from the place on, or none
abbrev pub IsPassed : ℕ → ℕ → List Line → Type 0
IsPassed n place ls = (m : ℕ) → n ≤ m → line_of m ls ≡ line_of m (drop place ls)

-- the pairs of a line
abbrev pub pairs_of_line : Line → List (ℕ × ℕ)
pairs_of_line l = map {B = ℕ × ℕ} (λ c. (l.row, c)) l.columns

-- the pairs of lines, in order
abbrev pub pairs_of : List Line → List (ℕ × ℕ)
pairs_of ls = flat_map pairs_of_line ls
