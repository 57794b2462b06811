-- Pairs of a row and a column, and the lines that they make.
use Rattle.std.specs.Prelude.{◌≡◌, ℕ, ◌<◌, ◌⊎◌, ◌==◌, List, [], ◌∷◌, length, if◌then◌else◌}
use Rattle.cube_slices.specs.Lines.{Line}

-- the first pair comes before the second: by row, and in a row by column
abbrev pub ComesBefore : ℕ × ℕ → ℕ × ℕ → Type 0
ComesBefore p q = (p.0 < q.0) ⊎ ((p.0 ≡ q.0) × (p.1 < q.1))

-- the pair comes before the first of the others, if there is one
abbrev pub ComesFirst : ℕ × ℕ → List (ℕ × ℕ) → Type 0
ComesFirst p [] = Unit {0}
ComesFirst p (q ∷ qs) = ComesBefore p q

-- the pairs ascend strictly, their rows stay below rows and their columns below columns
abbrev pub PairsAscend : ℕ → ℕ → List (ℕ × ℕ) → Type 0
PairsAscend rows columns [] = Unit {0}
PairsAscend rows columns (p ∷ ps) = (p.0 < rows) × (p.1 < columns) × ComesFirst p ps × PairsAscend rows columns ps

-- there is a pair, and the pairs ascend
pub record ArePairs (rows columns : ℕ) (ps : List (ℕ × ℕ)) : Type 0 where
  pub some : 0 < length ps
  pub ascend : PairsAscend rows columns ps

-- Lines with one pair more in front. It joins the first line where that is its row.
abbrev pub with_pair : ℕ × ℕ → List Line → List Line
with_pair p [] = record { row = p.0; columns = p.1 ∷ [] } ∷ []
with_pair p (l ∷ ls) =
    if p.0 == l.row then record { row = p.0; columns = p.1 ∷ l.columns } ∷ ls else record { row = p.0; columns = p.1 ∷ [] } ∷ l ∷ ls

-- the lines of pairs that stand row by row
abbrev pub lines_of : List (ℕ × ℕ) → List Line
lines_of [] = []
lines_of (p ∷ ps) = with_pair p (lines_of ps)
