-- Laws of the least number.
use Rattle.std.proofs.Common.{◌≡◌, ◌↔◌, ℕ, ◌+◌, ◌-◌, ◌*◌, ◌/◌, ◌%◌, ◌^◌, ◌<◌, ◌≤◌, List, get_or, bit_and, min, Option, Some, None, IsTrue, is_some, ap, sym, ◌∙◌, inl, inr, arith, rules, w64}
use Rattle.std.proofs.lemmas.Bool.{cases_lt, cases_order}
use Rattle.std.proofs.lemmas.List.Elements.{Contains-get_or}
use Rattle.std.proofs.lemmas.Nat.Bits.{bit_at-lt, bit_at-zero, bit_at_and, bit_at-trailing_zeros, ones_shl, bit_at_mask_inside, bit_at_mask_below}
use Rattle.std.specs.Int.{bit_at, trailing_zeros}
use Rattle.std.specs.List.{All, Contains}
use Rattle.run_rows.specs.Row.{IsLeastFrom}
use Rattle.row_lanes.proofs.SetLaws.{Has-below_length}
use Rattle.row_lanes.proofs.NumberLaws.{Contains-numbers_in}
use Rattle.row_lanes.specs.Words.{Has, numbers_in}
use Rattle.row_lanes.specs.WordByWord.{AreZeroBetween, IsFirstSet}

-- the word has the bits of the word at this place whose numbers are not below n
pub record IsRestOf (n : ℕ) (words : List ℕ) (place word : ℕ) : Type 0 where
  pub bits : (i : ℕ) → i < 64 → (bit_at word i ≡ 1) ↔ ((bit_at (get_or words place 0) i ≡ 1) × (n ≤ 64 * place + i))

pub IsRestOf-masked : (n : ℕ) (words : List ℕ) (mask word : ℕ) → mask ≡ (2 ^ 64 - 1) * 2 ^ (n % 64) % 2 ^ 64 → word ≡ bit_and (get_or words (n / 64) 0) mask → IsRestOf n words (n / 64) word
IsRestOf-masked n words mask word mask-is word-is = record {
  bits = λ i lt.
      let whole = get_or words (n / 64) 0 in
      let high : mask ≡ 2 ^ 64 - 2 ^ (n % 64) = mask-is ∙ ones_shl 64 (n % 64) (omega arith) in
      let both : bit_at word i ≡ min (bit_at whole i) (bit_at (2 ^ 64 - 2 ^ (n % 64)) i) =
      ap (λ w. bit_at w i) word-is ∙ bit_at_and whole mask i ∙ ap (λ m. min (bit_at whole i) (bit_at m i)) high in
      let bit = bit_at-lt whole i in
      elim (cases_lt i (n % 64)) [
        | inl before ↦
            let none = bit_at_mask_below (n % 64) 64 i before in
            (λ h. absurd (omega arith), λ h. absurd (omega (arith, h.1)))
        | inr from ↦
            let one = bit_at_mask_inside (n % 64) 64 i from lt in
            (λ h. (omega arith, omega arith), λ h. omega (arith, h.0))
      ];
}

pub IsRestOf-whole : (n : ℕ) (words : List ℕ) (place : ℕ) → n ≤ 64 * place → IsRestOf n words place (get_or words place 0)
IsRestOf-whole n words place later = record { bits = λ i lt. (λ h. (h, omega arith), λ h. h.0) }

All-from_contains : (P : ℕ → Type 0) (xs : List ℕ) → ((x : ℕ) → Contains xs x → P x) → All P xs
All-from_contains P xs each k d lt = each (get_or xs k d) (Contains-get_or xs k d lt)

-- no number is left out
pub IsLeastFrom-none : (n : ℕ) (words : List ℕ) → ((x : ℕ) → Has words x → n ≤ x → ⊥) → IsLeastFrom n (numbers_in words) None
IsLeastFrom-none n words none =
    All-from_contains (λ x. x < n) (numbers_in words) (λ x has. elim (cases_lt x n) [
      | inl below ↦ below
      | inr from ↦ absurd (none x ((Contains-numbers_in words x).0 has) from)
    ])

-- the lowest bit of a word that is not 0, where no number from n on stands before the word
pub IsLeastFrom-lowest : (n : ℕ) (words : List ℕ) (place word least : ℕ) → IsRestOf n words place word → word < 2 ^ 64 → 0 < word → ((x : ℕ) → Has words x → n ≤ x → place ≤ x / 64) → least ≡ 64 * place + trailing_zeros w64 word → IsLeastFrom n (numbers_in words) (Some least)
IsLeastFrom-lowest n words place word least rest fits some first least-is =
    let t = trailing_zeros w64 word in
    let lowest = bit_at-trailing_zeros w64 word some fits in
    let t_lt : t < 64 = lowest.0 in
    let bit = (rest.bits t t_lt).0 lowest.1 in
    let at : least / 64 ≡ place = omega arith in
    let inside : least % 64 ≡ t = omega arith in
    let had : Has words least = ap (λ k. bit_at (get_or words k 0) (least % 64)) at ∙ ap (bit_at (get_or words place 0)) inside ∙ bit.0 in
    let no_less : (x : ℕ) → Has words x → n ≤ x → least ≤ x = λ x has from.
    elim (cases_order (x / 64) place) [
      | inl same ↦
          let x_bit : bit_at (get_or words place 0) (x % 64) ≡ 1 = ap (λ k. bit_at (get_or words k 0) (x % 64)) (sym same) ∙ has in
          let set = (rest.bits (x % 64) (omega arith)).1 (x_bit, omega arith) in
          elim (cases_lt (x % 64) t) [ inl lower ↦ let clear = lowest.2 (x % 64) lower in absurd (omega arith) | inr higher ↦ omega arith ]
      | inr differs ↦ let later = first x has from in omega arith
    ] in (
      omega (arith, bit.1),
      (Contains-numbers_in words least).1 had,
      All-from_contains (λ x. n ≤ x → least ≤ x) (numbers_in words) (λ x has from. no_less x ((Contains-numbers_in words x).0 has) from),
    )

-- the number of a word that is 0
nothing_in_zero : (words : List ℕ) (x : ℕ) → get_or words (x / 64) 0 ≡ 0 → Has words x → ⊥
nothing_in_zero words x zero has =
    let none : bit_at (get_or words (x / 64) 0) (x % 64) ≡ 0 = ap (λ w. bit_at w (x % 64)) zero ∙ bit_at-zero (x % 64) in
    omega arith

-- where nothing is left of the word of n, and the words behind it are 0 up to a place, a number from n on stands there or later
pub rest_is_later : (n : ℕ) (words : List ℕ) (word high : ℕ) → IsRestOf n words (n / 64) word → word ≡ 0 → AreZeroBetween (n / 64 + 1) high words → (x : ℕ) → Has words x → n ≤ x → high ≤ x / 64
rest_is_later n words word high rest empty zero x has from =
    elim (cases_lt (x / 64) high) [
      | inr later ↦ later
      | inl before ↦ absurd (elim (cases_order (x / 64) (n / 64)) [
        | inl same ↦
            let x_bit : bit_at (get_or words (n / 64) 0) (x % 64) ≡ 1 = ap (λ k. bit_at (get_or words k 0) (x % 64)) (sym same) ∙ has in
            let set = (rest.bits (x % 64) (omega arith)).1 (x_bit, omega arith) in
            let clear : bit_at word (x % 64) ≡ 0 = ap (λ w. bit_at w (x % 64)) empty ∙ bit_at-zero (x % 64) in
            omega arith
        | inr differs ↦ nothing_in_zero words x (zero (x / 64) (omega arith) before) has
      ])
    ]

-- there is a word that is not 0 exactly where there is a number
pub some_from_first_set : (words : List ℕ) (first : Option ℕ) → ((k : ℕ) → get_or words k 0 < 2 ^ 64) → IsFirstSet 0 words first → IsTrue (is_some first) ↔ ((n : ℕ) × Has words n)
some_from_first_set words None fits zero =
    (λ h. absurd (search rules), λ (n, has). absurd (nothing_in_zero words n (zero (n / 64) (omega arith) (Has-below_length words n has)) has))
some_from_first_set words (Some i) fits found =
    let word = get_or words i 0 in
    let t = trailing_zeros w64 word in
    let lowest = bit_at-trailing_zeros w64 word (omega (arith, found.2)) (fits i) in
    let t_lt : t < 64 = lowest.0 in
    let at : (64 * i + t) / 64 ≡ i = omega arith in
    let inside : (64 * i + t) % 64 ≡ t = omega arith in
    (λ h. (64 * i + t, ap (λ k. bit_at (get_or words k 0) ((64 * i + t) % 64)) at ∙ ap (bit_at word) inside ∙ lowest.1), λ h. search rules)
