-- Pairs of numbers in bytes: eight bytes each.
use Rattle.std.specs.Prelude.{ℕ, ◌<◌, ◌^◌, List, [], ◌∷◌, ◌++◌}
use Rattle.std.specs.Int.{w32, to_le_bytes, from_le_bytes}

-- the bytes of a pair: the first number, and then the second
unfoldable pub pair_bytes : ℕ × ℕ → List ℕ
pair_bytes p = to_le_bytes w32 p.0 ++ to_le_bytes w32 p.1

-- the pairs that stand in bytes; up to seven bytes at the end are none
unfoldable pub pairs_in : List ℕ → List (ℕ × ℕ)
pairs_in (a ∷ b ∷ c ∷ d ∷ e ∷ f ∷ g ∷ h ∷ rest) =
    (from_le_bytes w32 (a ∷ b ∷ c ∷ d ∷ []), from_le_bytes w32 (e ∷ f ∷ g ∷ h ∷ [])) ∷ pairs_in rest
pairs_in _ = []

-- both numbers of each pair fit in four bytes
abbrev pub PairsFit32 : List (ℕ × ℕ) → Type 0
PairsFit32 [] = Unit {0}
PairsFit32 (p ∷ ps) = (p.0 < 2 ^ 32) × (p.1 < 2 ^ 32) × PairsFit32 ps
