-- Where a row is sought among lines: between two places.
use Rattle.std.specs.Prelude.{◌≡◌, ℕ, ◌+◌, ◌≤◌, List, [], ◌∷◌, length, drop}
use Rattle.cube_slices.specs.Lines.{Line, IsPassed}

-- the first of the lines, if there is one, is not before row n
abbrev pub StartsAt : ℕ → List Line → Type 0
StartsAt n [] = Unit {0}
StartsAt n (l ∷ ls) = n ≤ l.row

-- the first line that is not before row n is neither before low nor behind high
pub record Seeks (n : ℕ) (ls : List Line) (low high : ℕ) : Type 0 where
  pub ordered : low ≤ high
  pub within : high ≤ length ls
  pub passed : IsPassed n low ls
  pub behind : StartsAt n (drop high ls)

-- the line in place i is of row n
pub record RowAt (i n : ℕ) (ls : List Line) : Type 0 where
  pub line : Line
  pub is : line.row ≡ n
  pub at : drop i ls ≡ line ∷ drop (i + 1) ls
