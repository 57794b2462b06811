-- Tables of pieces: where each piece starts, and the pieces one after the other.
use Rattle.std.specs.Prelude.{◌≡◌, ℕ, ◌+◌, ◌-◌, ◌<◌, List, [], ◌∷◌, length, take, drop}
use Rattle.std.specs.List.{flat_map}

-- the pieces one after the other, with nothing between them
abbrev pub joined : List (List ℕ) → List ℕ
joined ps = flat_map (λ p. p) ps

-- where each of the pieces ends, the first of them starting at some place
abbrev pub ends_from : ℕ → List (List ℕ) → List ℕ
ends_from from [] = []
ends_from from (p ∷ ps) = (from + length p) ∷ ends_from (from + length p) ps

-- where each piece starts, and at last where the last one ends: one number more than there are pieces
abbrev pub starts_of : List (List ℕ) → List ℕ
starts_of ps = 0 ∷ ends_from 0 ps

-- bytes cut at each of the ends
abbrev pub cut_from : ℕ → List ℕ → List ℕ → List (List ℕ)
cut_from from [] bytes = []
cut_from from (e ∷ es) bytes = take (e - from) bytes ∷ cut_from e es (drop (e - from) bytes)

-- the pieces that starts cut out of bytes
abbrev pub pieces_at : List ℕ → List ℕ → List (List ℕ)
pieces_at [] bytes = []
pieces_at (s ∷ es) bytes = cut_from s es bytes

-- the ends ascend strictly, and the last of them is the last of all
abbrev pub AscendTo : ℕ → ℕ → List ℕ → Type 0
AscendTo last from [] = from ≡ last
AscendTo last from (e ∷ es) = (from < e) × AscendTo last e es

-- The starts begin with 0, ascend strictly and end with the last. There is always one: the table of no piece has the
-- one start 0, and then the last is 0.
abbrev pub CutWhole : ℕ → List ℕ → Type 0
CutWhole last [] = ⊥
CutWhole last (s ∷ es) = (s ≡ 0) × AscendTo last s es

-- each piece has a byte
abbrev pub HaveBytes : List (List ℕ) → Type 0
HaveBytes [] = Unit {0}
HaveBytes (p ∷ ps) = (0 < length p) × HaveBytes ps
