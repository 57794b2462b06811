-- When words are the set of all numbers below a number of bits.
use Rattle.std.proofs.Common.{◌≡◌, ℕ, ◌-◌, ◌/◌, ◌%◌, ◌^◌, ◌<◌, ◌≤◌, ◌⊎◌, inl, inr, ◌↔◌, List, length, get_or, arith, ap, ◌∙◌}
use Rattle.std.specs.Int.{bit_at}
use Rattle.std.proofs.lemmas.List.{get_or_past}
use Rattle.std.proofs.lemmas.Nat.Bits.{bit_at_ones, bit_at_ones_above, bit_at-zero}
use Rattle.mask_pool.specs.Mask.{words_for}
use Rattle.row_lanes.specs.Words.{Has}

-- the k lowest bits are set, and no other
low_bits : (k i : ℕ) → (bit_at (2 ^ k - 1) i ≡ 1) ↔ (i < k)
low_bits k i =
    let cases : (i < k) ⊎ (k ≤ i) = grind arith in
    elim cases [
      | inl below ↦ (λ _. below, λ _. bit_at_ones k i below)
      | inr above ↦ (λ set. let none = bit_at_ones_above k i above in omega arith, λ below. omega arith)
    ]

module _ (words : List ℕ) (bits : ℕ) (fits : length words ≡ words_for bits) where
  -- past the last word no number is in the set
  past_the_words : (n : ℕ) → length words ≤ n / 64 → Has words n → ⊥
  past_the_words n past has =
      let none : bit_at (get_or words (n / 64) 0) (n % 64) ≡ 0 = rw (get_or_past words (n / 64) 0 past) (bit_at-zero (n % 64)) in
      omega arith

  -- words of ones, and a last one whose lowest bits are set, are the set of the numbers below the bits
  pub full_law : ((k : ℕ) → k < bits / 64 → get_or words k 0 ≡ 2 ^ 64 - 1) → (0 < bits % 64 → get_or words (bits / 64) 0 ≡ 2 ^ (bits % 64) - 1) → (n : ℕ) → Has words n ↔ (n < bits)
  full_law ones last n =
      let cases : (n / 64 < bits / 64) ⊎ (((n / 64 ≡ bits / 64) × (0 < bits % 64)) ⊎ (length words ≤ n / 64)) = grind arith in
      elim cases [
        | inl before ↦ (λ _. omega arith, λ _. rw (ones (n / 64) before) (bit_at_ones 64 (n % 64) (omega arith)))
        | inr rest ↦ elim rest [
          | inl at ↦
              let word : get_or words (n / 64) 0 ≡ 2 ^ (bits % 64) - 1 = ap (λ i. get_or words i 0) at.0 ∙ last at.1 in
              let low = low_bits (bits % 64) (n % 64) in
              (λ has. let set : bit_at (2 ^ (bits % 64) - 1) (n % 64) ≡ 1 = rw word at has in omega (arith, low.0 set), λ below. rw word (low.1 (omega arith)))
          | inr past ↦ (λ has. absurd (past_the_words n past has), λ below. absurd (omega arith))
        ]
      ]
