-- Laws of sets of numbers.
use Rattle.std.proofs.Common.{◌≡◌, ◌≢◌, ◌↔◌, ℕ, ◌-◌, ◌*◌, ◌/◌, ◌%◌, ◌^◌, ◌<◌, ◌≤◌, List, length, get_or, slice_set as set, bit_and, Option, Some, None, IfSome, refl, ap, sym, ◌∙◌, inl, inr, arith, w64, get_or-set_other, get_or-set_same}
use Rattle.std.proofs.lemmas.Bool.{cases_eq}
use Rattle.std.proofs.lemmas.List.Elements.{All-contains}
use Rattle.std.proofs.lemmas.Nat.Bits.{bit_at_clear_same, bit_at_clear_other}
use Rattle.std.specs.Int.{bit_at}
use Rattle.run_rows.specs.Row.{IsLeastFrom}
use Rattle.row_lanes.specs.Words.{bit_of, Has, numbers_in}
use Rattle.row_lanes.proofs.SetLaws.{Has-below_length}
use Rattle.row_lanes.proofs.NumberLaws.{Contains-numbers_in}
use Rattle.pattern_rel.specs.steps.Sets.{IsNext}

-- ---- the least number

pub IsNext-least : (n : ℕ) (words : List ℕ) (o : Option ℕ) → IsLeastFrom n (numbers_in words) o → IsNext n words o
IsNext-least n words None least = λ m has. All-contains (λ x. x < n) (numbers_in words) m least ((Contains-numbers_in words m).1 has)
IsNext-least n words (Some x) least =
    (least.0, (Contains-numbers_in words x).0 least.1, λ m has from. All-contains (λ y. n ≤ y → x ≤ y) (numbers_in words) m least.2 ((Contains-numbers_in words m).1 has) from)

-- there is a word for it
pub Has-within : (n : ℕ) (words : List ℕ) → Has words n → n < 64 * length words
Has-within n words has = omega (arith, Has-below_length words n has)

pub IsNext-within : (n : ℕ) (words : List ℕ) (o : Option ℕ) → IsNext n words o → IfSome o (λ x. x < 64 * length words)
IsNext-within n words None next = tt
IsNext-within n words (Some x) next = Has-within x words next.1

-- ---- removing

pub Has-remove : (words : List ℕ) (n mask : ℕ) → n / 64 < length words → mask ≡ 2 ^ 64 - 1 - 1 * 2 ^ (n % 64) % 2 ^ 64 → (m : ℕ) → Has (set words (n / 64) (bit_and (get_or words (n / 64) 0) mask)) m ↔ (Has words m × (m ≢ n))
Has-remove words n mask room is m =
    let word = get_or words (n / 64) 0 in
    let new = bit_and word mask in
    elim (cases_eq (m / 64) (n / 64)) [
      | inl place ↦
          let at : get_or (set words (n / 64) new) (m / 64) 0 ≡ bit_and word (2 ^ 64 - 1 - 1 * 2 ^ (n % 64) % 2 ^ 64) = rw (place, get_or-set_same) (ap (bit_and word) is) in
          elim (cases_eq (m % 64) (n % 64)) [
            | inl bit ↦
                let gone : bit_of (set words (n / 64) new) m ≡ 0 = ap (λ w. bit_at w (m % 64)) at ∙ ap (bit_at (bit_and word (2 ^ 64 - 1 - 1 * 2 ^ (n % 64) % 2 ^ 64))) bit ∙ bit_at_clear_same w64 word (n % 64) (omega arith) in
                (λ h. absurd (omega arith), λ h. absurd (h.1 (omega arith)))
            | inr apart ↦
                let as_before : bit_of (set words (n / 64) new) m ≡ bit_of words m = ap (λ w. bit_at w (m % 64)) at ∙ bit_at_clear_other w64 word (n % 64) (omega arith) (m % 64) (omega arith) apart ∙ ap (λ k. bit_at (get_or words k 0) (m % 64)) (sym place) in
                (λ h. (sym as_before ∙ h, λ same. apart (ap (λ k. k % 64) same)), λ h. as_before ∙ h.0)
          ]
      | inr apart ↦
          let as_before : bit_of (set words (n / 64) new) m ≡ bit_of words m = ap (λ w. bit_at w (m % 64)) (rw get_or-set_other refl) in
          (λ h. (sym as_before ∙ h, λ same. apart (ap (λ k. k / 64) same)), λ h. as_before ∙ h.0)
    ]

-- where there is no word for it, the number is not there
pub Has-past : (words : List ℕ) (n : ℕ) → length words ≤ n / 64 → (m : ℕ) → Has words m ↔ (Has words m × (m ≢ n))
Has-past words n past m =
    (λ h. (h, λ same. (let lt = Has-below_length words m h in let at : m / 64 ≡ n / 64 = ap (λ k. k / 64) same in omega arith)), λ h. h.0)

-- ---- the same words

pub Has-same : (words other : List ℕ) (room : ℕ) → length words ≡ room → ((k : ℕ) → k < room → get_or words k 0 ≡ get_or other k 0) → (n : ℕ) → Has words n ↔ (Has other n × (n < 64 * room))
Has-same words other room size same n = (
  λ h. (let lt = Has-below_length words n h in (sym (ap (λ w. bit_at w (n % 64)) (same (n / 64) (omega arith))) ∙ h, omega arith)),
  λ h. ap (λ w. bit_at w (n % 64)) (same (n / 64) (omega (arith, h.1))) ∙ h.0,
)
