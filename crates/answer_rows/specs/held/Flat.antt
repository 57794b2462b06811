-- Carries proofs only: rows that lie in one list, cell after cell.
use Rattle.std.specs.Prelude.{ℕ, zero, suc, List, [], ◌∷◌, take, drop}

-- so many rows of a width, from the cells
abbrev pub in_rows : {X : Type 0} → ℕ → ℕ → List X → List (List X)
in_rows width zero cells = []
in_rows width (suc n) cells = take width cells ∷ in_rows width n (drop width cells)
