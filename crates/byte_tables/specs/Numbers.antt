-- Numbers in bytes: four bytes each, the lowest byte first.
use Rattle.std.specs.Prelude.{ℕ, ◌<◌, ◌^◌, List, [], ◌∷◌, slice_index}
use Rattle.std.specs.List.{flat_map}
use Rattle.std.specs.Int.{w32, to_le_bytes, from_le_bytes}

-- the bytes of numbers, one after the other
unfoldable pub number_bytes : List ℕ → List ℕ
number_bytes xs = flat_map (to_le_bytes w32) xs

-- the numbers that stand in bytes; up to three bytes at the end are none
unfoldable pub numbers_in : List ℕ → List ℕ
numbers_in (a ∷ b ∷ c ∷ d ∷ rest) = from_le_bytes w32 (a ∷ b ∷ c ∷ d ∷ []) ∷ numbers_in rest
numbers_in _ = []

-- each number fits in four bytes
abbrev pub AllFit32 : List ℕ → Type 0
AllFit32 [] = Unit {0}
AllFit32 (x ∷ xs) = (x < 2 ^ 32) × AllFit32 xs

-- each is below 256
abbrev pub IsBytes : List ℕ → Type 0
IsBytes bytes = (i : ℕ) → slice_index bytes i < 256
