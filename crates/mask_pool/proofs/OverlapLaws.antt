-- When two masks overlap.
use Rattle.std.proofs.Common.{ℕ, ◌<◌, ◌≤◌, ◌⊎◌, inl, inr, ◌↔◌, min, max, arith}
use Rattle.mask_pool.specs.Mask.{Stretch, end_of, HasWord, DoNotOverlap}

-- masks do not overlap exactly where one of them ends before the other begins
pub one_ends_first : (a b : Stretch) → DoNotOverlap a b ↔ ((end_of a ≤ b.start) ⊎ (end_of b ≤ a.start))
one_ends_first a b = (λ apart. grind arith, λ ends. elim ends [ inl first ↦ omega arith | inr first ↦ omega arith ])

-- no word is in both of two masks that do not overlap
pub no_word : (a b : Stretch) (place : ℕ) → DoNotOverlap a b → HasWord a place → HasWord b place → ⊥
no_word a b place apart in_a in_b = omega arith

-- masks with words in which no word is in both do not overlap: else the later start is in both
pub apart_by_words : (a b : Stretch) → a.start < end_of a → b.start < end_of b → ((place : ℕ) → HasWord a place → HasWord b place → ⊥) → DoNotOverlap a b
apart_by_words a b some_a some_b none =
    let cases : DoNotOverlap a b ⊎ (max a.start b.start < min (end_of a) (end_of b)) = grind arith in
    elim cases [
      | inl apart ↦ apart
      | inr both ↦ absurd (none (max a.start b.start) (omega arith, omega arith) (omega arith, omega arith))
    ]
