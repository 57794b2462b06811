-- Laws of words as sets of numbers.
use Rattle.std.proofs.Common.{◌≡◌, ◌≢◌, ◌↔◌, ◌⊎◌, ℕ, ◌+◌, ◌-◌, ◌*◌, ◌/◌, ◌%◌, ◌^◌, ◌<◌, ◌≤◌, List, length, get_or, slice_set as set, bit_and, bit_or, min, refl, sym, ap, ◌∙◌, inl, inr, arith, w64, get_or-set_other, get_or-set_same}
use Rattle.std.proofs.lemmas.Bool.{cases_lt, cases_eq, cases_order}
use Rattle.std.proofs.lemmas.List.{get_or_past}
use Rattle.std.proofs.lemmas.Nat.Bits.{bit_at-lt, bit_at-zero, bit_at_and, bit_at_ones, bit_at_ones_above, bit_at_set_same, bit_at_set_other}
use Rattle.std.specs.Int.{bit_at}
use Rattle.row_lanes.specs.Words.{Has}
use Rattle.row_lanes.specs.WordByWord.{IsCutAt}

-- a word of both is the numbers of both
pub Has-and : (old other new : List ℕ) → ((k : ℕ) → get_or new k 0 ≡ bit_and (get_or old k 0) (get_or other k 0)) → (n : ℕ) → Has new n ↔ (Has old n × Has other n)
Has-and old other new both n =
    let a = get_or old (n / 64) 0 in
    let b = get_or other (n / 64) 0 in
    let bit : bit_at (get_or new (n / 64) 0) (n % 64) ≡ min (bit_at a (n % 64)) (bit_at b (n % 64)) = ap (λ w. bit_at w (n % 64)) (both (n / 64)) ∙ bit_at_and a b (n % 64) in
    let a_small = bit_at-lt a (n % 64) in
    let b_small = bit_at-lt b (n % 64) in
    (λ h. (omega arith, omega arith), λ h. omega (arith, h.0, h.1))

-- there is a word for each number of the set
pub Has-below_length : (words : List ℕ) (n : ℕ) → Has words n → n / 64 < length words
Has-below_length words n had =
    elim (cases_lt (n / 64) (length words)) [
      | inl room ↦ room
      | inr past ↦
          let none : bit_at (get_or words (n / 64) 0) (n % 64) ≡ 0 = ap (λ w. bit_at w (n % 64)) (get_or_past words (n / 64) 0 past) ∙ bit_at-zero (n % 64) in
          absurd (omega arith)
    ]

-- a number is its word and its bit
same_number : (m n : ℕ) → m / 64 ≡ n / 64 → m % 64 ≡ n % 64 → m ≡ n
same_number m n place bit = omega arith

-- one number is added
pub Has-add : (words : List ℕ) (n : ℕ) → n / 64 < length words → (m : ℕ) → Has (set words (n / 64) (bit_or (get_or words (n / 64) 0) (1 * 2 ^ (n % 64) % 2 ^ 64))) m ↔ (Has words m ⊎ (m ≡ n))
Has-add words n room m =
    let word = get_or words (n / 64) 0 in
    elim (cases_eq (m / 64) (n / 64)) [
      | inl place ↦
          let at : get_or (set words (n / 64) (bit_or word (1 * 2 ^ (n % 64) % 2 ^ 64))) (m / 64) 0 ≡ bit_or word (1 * 2 ^ (n % 64) % 2 ^ 64) = rw (place, get_or-set_same) refl in
          elim (cases_eq (m % 64) (n % 64)) [
            | inl bit ↦
                (λ h. inr (same_number m n place bit), λ h. ap (λ w. bit_at w (m % 64)) at ∙ ap (bit_at (bit_or word (1 * 2 ^ (n % 64) % 2 ^ 64))) bit ∙ bit_at_set_same w64 word (n % 64) (omega arith))
            | inr apart ↦
                let as_before : bit_at (get_or (set words (n / 64) (bit_or word (1 * 2 ^ (n % 64) % 2 ^ 64))) (m / 64) 0) (m % 64) ≡ bit_at (get_or words (m / 64) 0) (m % 64) =
                ap (λ w. bit_at w (m % 64)) at ∙ bit_at_set_other w64 word (n % 64) (omega arith) (m % 64) apart ∙ ap (λ k. bit_at (get_or words k 0) (m % 64)) (sym place) in
                (λ h. inl (sym as_before ∙ h), λ h. elim h [ inl had ↦ as_before ∙ had | inr same ↦ absurd (apart (ap (λ k. k % 64) same)) ])
          ]
      | inr apart ↦
          let as_before : get_or (set words (n / 64) (bit_or word (1 * 2 ^ (n % 64) % 2 ^ 64))) (m / 64) 0 ≡ get_or words (m / 64) 0 = rw get_or-set_other refl in
          (λ h. inl (sym (ap (λ w. bit_at w (m % 64)) as_before) ∙ h), λ h. elim h [ inl had ↦ ap (λ w. bit_at w (m % 64)) as_before ∙ had | inr same ↦ absurd (apart (ap (λ k. k / 64) same)) ])
    ]

-- the numbers before n, where the words before that of n are as before, its own has its low bits, and those behind are 0
pub Has-cut : (old middle new : List ℕ) (n low : ℕ) → n / 64 < length old → low ≡ 2 ^ (n % 64) - 1 → middle ≡ set old (n / 64) (bit_and (get_or old (n / 64) 0) low) → IsCutAt (n / 64 + 1) middle new → (m : ℕ) → Has new m ↔ (Has old m × (m < n))
Has-cut old middle new n low room low-is middle-is cut m =
    let i = m % 64 in
    let word = get_or old (n / 64) 0 in
    let bit = bit_at-lt (get_or old (m / 64) 0) i in
    elim (cases_order (m / 64) (n / 64)) [
      | inl place ↦
          let at : get_or new (m / 64) 0 ≡ bit_and word low = cut.below (m / 64) (omega arith) ∙ ap (λ ws. get_or ws (m / 64) 0) middle-is ∙ rw (place, get_or-set_same) refl in
          let both : bit_at (get_or new (m / 64) 0) i ≡ min (bit_at (get_or old (m / 64) 0) i) (bit_at (2 ^ (n % 64) - 1) i) =
          ap (λ w. bit_at w i) at ∙ bit_at_and word low i ∙ ap (λ w. min (bit_at word i) (bit_at w i)) low-is ∙ ap (λ k. min (bit_at (get_or old k 0) i) (bit_at (2 ^ (n % 64) - 1) i)) (sym place) in
          elim (cases_lt i (n % 64)) [
            | inl before ↦
                let one = bit_at_ones (n % 64) i before in
                (λ h. (omega arith, omega arith), λ h. omega (arith, h.0))
            | inr from ↦
                let none = bit_at_ones_above (n % 64) i from in
                (λ h. absurd (omega arith), λ h. absurd (omega (arith, h.1)))
          ]
      | inr apart ↦ elim apart [
        | inl before ↦
            let differs : m / 64 ≢ n / 64 = omega arith in
            let as_before : get_or new (m / 64) 0 ≡ get_or old (m / 64) 0 = cut.below (m / 64) (omega arith) ∙ ap (λ ws. get_or ws (m / 64) 0) middle-is ∙ rw get_or-set_other refl in
            let same = ap (λ w. bit_at w i) as_before in
            (λ h. (sym same ∙ h, omega arith), λ h. same ∙ h.0)
        | inr behind ↦
            let none : bit_at (get_or new (m / 64) 0) i ≡ 0 = ap (λ w. bit_at w i) (cut.above (m / 64) (omega arith)) ∙ bit_at-zero i in
            (λ h. absurd (omega arith), λ h. absurd (omega (arith, h.1)))
      ]
    ]

-- no number is removed where there is no word for n
pub Has-cut_past : (words : List ℕ) (n : ℕ) → length words ≤ n / 64 → (m : ℕ) → Has words m ↔ (Has words m × (m < n))
Has-cut_past words n past m = (λ had. (had, omega (arith, Has-below_length words m had)), λ h. h.0)

-- the number is added where there is a word for it
pub Has-add_within : (words : List ℕ) (n : ℕ) → n / 64 < length words → (m : ℕ) → Has (set words (n / 64) (bit_or (get_or words (n / 64) 0) (1 * 2 ^ (n % 64) % 2 ^ 64))) m ↔ (Has words m ⊎ ((m ≡ n) × (m < 64 * length words)))
Has-add_within words n room m =
    let added = Has-add words n room m in (
      λ h. elim (added.0 h) [ inl had ↦ inl had | inr same ↦ inr (same, omega arith) ],
      λ h. added.1 (elim h [ inl had ↦ inl had | inr (same, lt) ↦ inr same ]),
    )

pub Has-add_past : (words : List ℕ) (n : ℕ) → length words ≤ n / 64 → (m : ℕ) → Has words m ↔ (Has words m ⊎ ((m ≡ n) × (m < 64 * length words)))
Has-add_past words n past m = (λ had. inl had, λ h. elim h [ inl had ↦ had | inr (same, lt) ↦ absurd (omega arith) ])
