-- Worked examples of the definitions.
use Rattle.std.proofs.Common.{◌≡◌, ℕ, zero, suc, ◌≤◌, [], ◌∷◌, Some, None, slice_index, refl, arith}
use Rattle.row_lanes.specs.Words.{Has, numbers_in}
use Rattle.row_lanes.specs.WordByWord.{IsAndBetween, IsCutAt, IsFirstSet}

-- 5 is the bits 0 and 2
low : Has (5 ∷ 9 ∷ []) 2
low = refl

clear : Has (5 ∷ 9 ∷ []) 1 → ⊥
clear had = cc

-- 9 is the bits 0 and 3, here of the second word
high : Has (5 ∷ 9 ∷ []) 67
high = refl

-- there is no third word
behind : Has (5 ∷ 9 ∷ []) 128 → ⊥
behind had = cc

two_words : numbers_in (5 ∷ 9 ∷ []) ≡ 0 ∷ 2 ∷ 64 ∷ 67 ∷ []
two_words = refl

no_word : numbers_in [] ≡ []
no_word = refl

-- ---- the words of the loops

-- the second word of three, where the other has 2
and_above : (k : ℕ) → 2 ≤ k → slice_index (7 ∷ 2 ∷ 7 ∷ []) k ≡ slice_index (7 ∷ 7 ∷ 7 ∷ []) k
and_above zero le = absurd (omega arith)
and_above (suc zero) le = absurd (omega arith)
and_above (suc (suc k)) le = refl

second_word : IsAndBetween 1 2 (7 ∷ 7 ∷ 7 ∷ []) (1 ∷ 2 ∷ 4 ∷ []) (7 ∷ 2 ∷ 7 ∷ [])
second_word = record {
  below = λ k lt. let first : k ≡ 0 = omega arith in rw first refl;
  within = λ k low high. let second : k ≡ 1 = omega arith in rw second refl;
  above = and_above;
}

-- all words but the first
cut_above : (k : ℕ) → 1 ≤ k → slice_index (7 ∷ 0 ∷ []) k ≡ 0
cut_above zero le = absurd (omega arith)
cut_above (suc zero) le = refl
cut_above (suc (suc k)) le = refl

one_word : IsCutAt 1 (7 ∷ 7 ∷ []) (7 ∷ 0 ∷ [])
one_word = record { below = λ k lt. let first : k ≡ 0 = omega arith in rw first refl; above = cut_above }

-- the first word from the second one on that is not 0, and none from the third one on
found : IsFirstSet 1 (7 ∷ 0 ∷ 4 ∷ 0 ∷ []) (Some 2)
found = (omega arith, omega arith, λ zero. cc, λ k low high. let second : k ≡ 1 = omega arith in rw second refl)

none_found : IsFirstSet 3 (7 ∷ 0 ∷ 4 ∷ 0 ∷ []) None
none_found k low high = let last : k ≡ 3 = omega arith in rw last refl
