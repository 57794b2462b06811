-- Laws of the numbers of words as an ascending list.
use Rattle.std.proofs.Common.{◌≡◌, ◌↔◌, ◌⊎◌, ℕ, zero, suc, ◌+◌, ◌*◌, ◌/◌, ◌%◌, ◌^◌, ◌<◌, ◌≤◌, Bool, true, false, cond, eqb, eqb-true, eq-eqb, List, [], ◌∷◌, ◌++◌, length, get_or, refl, sym, ap, subst, ◌∙◌, inl, inr, arith, add-one, one-add, zero-add, add-zero, count_ones, length-append}
use Rattle.std.proofs.lemmas.Nat.{ones_le_self, shr_below}
use Rattle.std.proofs.lemmas.Nat.Bits.{bit_at_lowest, bit_at-suc}
use Rattle.std.proofs.lemmas.List.Elements.{filter-append}
use Rattle.std.proofs.lemmas.List.FromFn.{length-range_with_len, get_or-range_with_len}
use Rattle.std.proofs.lemmas.Bool.{cases_eq}
use Rattle.std.proofs.lemmas.List.Kept.{IsStrictlyIncreasing-filter}
use Rattle.std.proofs.lemmas.List.Sums.{sum_by-cons}
use Rattle.std.specs.Int.{bit_at}
use Rattle.std.specs.List.{filter, range_with_len, Contains, sum_by}
use Rattle.std.specs.List.Sorted.{IsStrictlyIncreasing}
use lib.Count.{ones_step}
use Rattle.row_lanes.proofs.SetLaws.{Has-below_length}
use Rattle.row_lanes.specs.Words.{bit_of, Has, numbers_in}

-- ---- which numbers a filter of a range has

Contains-first : (x : ℕ) (xs : List ℕ) (n k : ℕ) → k < length (x ∷ xs) → get_or (x ∷ xs) k n ≡ n → (x ≡ n) ⊎ Contains xs n
Contains-first x xs n zero lt at = inl at
Contains-first x xs n (suc k) lt at = inr (k, omega arith, at)

pub Contains-cons : (x : ℕ) (xs : List ℕ) (n : ℕ) → Contains (x ∷ xs) n ↔ ((x ≡ n) ⊎ Contains xs n)
Contains-cons x xs n =
    (λ (k, lt, at). Contains-first x xs n k lt at, λ h. elim h [ inl same ↦ (0, omega arith, same) | inr (k, lt, at) ↦ (suc k, omega arith, at) ])

-- the number a in front of a range, where the range behind it is known
Contains-filter_first : (p : ℕ → Bool) (a m n : ℕ) (rest : List ℕ) (b : Bool) → p a ≡ b → Contains rest n ↔ ((a + 1 ≤ n) × (n < a + 1 + m) × (p n ≡ true)) → Contains (cond b (a ∷ rest) rest) n ↔ ((a ≤ n) × (n < a + suc m) × (p n ≡ true))
Contains-filter_first p a m n rest true passes behind = (
  λ h. elim ((Contains-cons a rest n).0 h) [
    | inl same ↦ (omega arith, omega arith, ap p (sym same) ∙ passes)
    | inr later ↦ let r = behind.0 later in (omega (arith, r.0), omega (arith, r.1), r.2)
  ],
  λ h. (Contains-cons a rest n).1 (elim (cases_eq a n) [ inl same ↦ inl same | inr apart ↦ inr (behind.1 (omega (arith, h.0), omega (arith, h.1), h.2)) ]),
)
Contains-filter_first p a m n rest false fails behind = (
  λ h. let r = behind.0 h in (omega (arith, r.0), omega (arith, r.1), r.2),
  λ h. elim (cases_eq a n) [
    | inl same ↦ absurd (let clash : false ≡ true = sym fails ∙ ap p same ∙ h.2 in cc)
    | inr apart ↦ behind.1 (omega (arith, h.0), omega (arith, h.1), h.2)
  ],
)

Contains-filter_range : (p : ℕ → Bool) (a m n : ℕ) → Contains (filter p (range_with_len a m)) n ↔ ((a ≤ n) × (n < a + m) × (p n ≡ true))
Contains-filter_range p a zero n = (λ (k, lt, at). absurd (omega arith), λ h. absurd (omega (arith, h.0, h.1)))
Contains-filter_range p a (suc m) n = Contains-filter_first p a m n (filter p (range_with_len (a + 1) m)) (p a) refl (Contains-filter_range p (a + 1) m n)

-- the numbers of words are those that the words have
pub Contains-numbers_in : (words : List ℕ) (n : ℕ) → Contains (numbers_in words) n ↔ Has words n
Contains-numbers_in words n =
    let p : ℕ → Bool = λ m. eqb (bit_of words m) 1 in
    let range = Contains-filter_range p 0 (64 * length words) n in
    (λ h. eqb-true (bit_of words n) 1 (range.0 h).2, λ had. range.1 (omega arith, omega (arith, Has-below_length words n had), eq-eqb (bit_of words n) 1 had))

-- ---- they ascend

IsStrictlyIncreasing-range : (a m : ℕ) → IsStrictlyIncreasing (range_with_len a m)
IsStrictlyIncreasing-range a m k lt =
    let long = length-range_with_len a m in
    omega (arith, get_or-range_with_len a m k 0 (omega arith), get_or-range_with_len a m (k + 1) 0 (omega arith))

pub IsStrictlyIncreasing-numbers_in : (words : List ℕ) → IsStrictlyIncreasing (numbers_in words)
IsStrictlyIncreasing-numbers_in words =
    IsStrictlyIncreasing-filter (λ n. eqb (bit_of words n) 1) (range_with_len 0 (64 * length words)) (IsStrictlyIncreasing-range 0 (64 * length words))

-- ---- how many they are

length-cond : (b : Bool) (x : ℕ) (xs : List ℕ) → length (cond b (x ∷ xs) xs) ≡ cond b 1 0 + length xs
length-cond true x xs = omega arith
length-cond false x xs = omega arith

-- two tests that agree over a range, one of them from d on, let as many numbers through
length-filter_moved : (p q : ℕ → Bool) (d a m : ℕ) → ((n : ℕ) → a ≤ n → n < a + m → p (d + n) ≡ q n) → length (filter p (range_with_len (d + a) m)) ≡ length (filter q (range_with_len a m))
length-filter_moved p q d a zero agree = refl
length-filter_moved p q d a (suc m) agree =
    let next : d + (a + 1) ≡ d + a + 1 = omega arith in
    let rest = length-filter_moved p q d (a + 1) m (λ n le lt. agree n (omega arith) (omega arith)) in
    length-cond (p (d + a)) (d + a) (filter p (range_with_len (d + a + 1) m))
    ∙ ap (λ b. cond b 1 0 + length (filter p (range_with_len (d + a + 1) m))) (agree a (omega arith) (omega arith))
    ∙ ap (λ k. cond (q a) 1 0 + length (filter p (range_with_len k m))) (sym next)
    ∙ ap (λ k. cond (q a) 1 0 + k) rest
    ∙ sym (length-cond (q a) a (filter q (range_with_len (a + 1) m)))

bit_from_test : (bit : ℕ) → bit < 2 → cond (eqb bit 1) 1 0 ≡ bit
bit_from_test zero small = refl
bit_from_test (suc zero) small = refl
bit_from_test (suc (suc bit)) small = absurd (omega arith)

-- the numbers of one word are as many as its ones
length-filter_bits : (k w : ℕ) → w < 2 ^ k → length (filter (λ n. eqb (bit_at w n) 1) (range_with_len 0 k)) ≡ count_ones w
length-filter_bits zero w small = omega (arith, ones_le_self w)
length-filter_bits (suc k) w small =
    let p : ℕ → Bool = λ n. eqb (bit_at w n) 1 in
    let q : ℕ → Bool = λ n. eqb (bit_at (w / 2) n) 1 in
    let moved : length (filter p (range_with_len 1 k)) ≡ length (filter q (range_with_len 0 k)) = length-filter_moved p q 1 0 k (λ n le lt. ap (λ b. eqb b 1) (ap (bit_at w) (one-add n) ∙ bit_at-suc w n)) in
    let first : cond (eqb (bit_at w 0) 1) 1 0 ≡ w % 2 = ap (λ b. cond (eqb b 1) 1 0) (bit_at_lowest w) ∙ bit_from_test (w % 2) (omega arith) in
    length-cond (p 0) 0 (filter p (range_with_len 1 k))
    ∙ ap (λ b. b + length (filter p (range_with_len 1 k))) first
    ∙ ap (λ n. w % 2 + n) (moved ∙ length-filter_bits k (w / 2) (shr_below w k 1 (subst (λ (j : ℕ). w < 2 ^ j) (sym (add-one k)) small)))
    ∙ sym (ones_step w)

range_with_len-split : (a m n : ℕ) → range_with_len a (m + n) ≡ range_with_len a m ++ range_with_len (a + m) n
range_with_len-split a zero n = rw (zero-add n, add-zero a) refl
range_with_len-split a (suc m) n =
    let up : suc m + n ≡ suc (m + n) = omega arith in
    let next : a + 1 + m ≡ a + suc m = omega arith in
    rw up (ap (λ ns. a ∷ ns) (range_with_len-split (a + 1) m n ∙ ap (λ k. range_with_len (a + 1) m ++ range_with_len k n) next))

length-filter_split : (p : ℕ → Bool) (k m : ℕ) → length (filter p (range_with_len 0 (k + m))) ≡ length (filter p (range_with_len 0 k)) + length (filter p (range_with_len k m))
length-filter_split p k m =
    ap (λ ns. length (filter p ns)) (range_with_len-split 0 k m ∙ ap (λ a. range_with_len 0 k ++ range_with_len a m) (zero-add k))
    ∙ ap length (filter-append p (range_with_len 0 k) (range_with_len k m))
    ∙ length-append (filter p (range_with_len 0 k)) (filter p (range_with_len k m))

-- k is how many numbers a word has, as a variable, so that no range of so many is computed
first_word : (w : ℕ) (words : List ℕ) (k : ℕ) → k ≡ 64 → w < 2 ^ 64 → length (filter (λ n. eqb (bit_of (w ∷ words) n) 1) (range_with_len 0 k)) ≡ count_ones w
first_word w words k width fits =
    let bit : (n : ℕ) → n < k → bit_of (w ∷ words) n ≡ bit_at w n = λ n lt.
    let place : n / 64 ≡ 0 = omega arith in
    let inside : n % 64 ≡ n = omega arith in
    ap (λ i. bit_at (get_or (w ∷ words) i 0) (n % 64)) place ∙ ap (bit_at w) inside in
    length-filter_moved (λ n. eqb (bit_of (w ∷ words) n) 1) (λ n. eqb (bit_at w n) 1) 0 0 k (λ n le lt. ap (λ i. eqb (bit_of (w ∷ words) i) 1) (zero-add n) ∙ ap (λ b. eqb b 1) (bit n (omega arith)))
    ∙ length-filter_bits k w (subst (λ (j : ℕ). w < 2 ^ j) (sym width) fits)

other_words : (w : ℕ) (words : List ℕ) (k m : ℕ) → k ≡ 64 → length (filter (λ n. eqb (bit_of (w ∷ words) n) 1) (range_with_len k m)) ≡ length (filter (λ n. eqb (bit_of words n) 1) (range_with_len 0 m))
other_words w words k m width =
    let bit : (n : ℕ) → bit_of (w ∷ words) (k + n) ≡ bit_of words n = λ n.
    let place : (k + n) / 64 ≡ suc (n / 64) = omega arith in
    let inside : (k + n) % 64 ≡ n % 64 = omega arith in
    ap (λ i. bit_at (get_or (w ∷ words) i 0) ((k + n) % 64)) place ∙ ap (bit_at (get_or words (n / 64) 0)) inside in
    ap (λ a. length (filter (λ n. eqb (bit_of (w ∷ words) n) 1) (range_with_len a m))) (sym (add-zero k))
    ∙ length-filter_moved (λ n. eqb (bit_of (w ∷ words) n) 1) (λ n. eqb (bit_of words n) 1) k 0 m (λ n le lt. ap (λ b. eqb b 1) (bit n))

length-numbers_in_cons : (w : ℕ) (words : List ℕ) (k m : ℕ) → k ≡ 64 → w < 2 ^ 64 → length (filter (λ n. eqb (bit_of (w ∷ words) n) 1) (range_with_len 0 (k + m))) ≡ count_ones w + length (filter (λ n. eqb (bit_of words n) 1) (range_with_len 0 m))
length-numbers_in_cons w words k m width fits =
    omega (arith, length-filter_split (λ n. eqb (bit_of (w ∷ words) n) 1) k m, first_word w words k width fits, other_words w words k m width)

-- the numbers of words are as many as the ones of all words
pub length-numbers_in : (words : List ℕ) → ((k : ℕ) → get_or words k 0 < 2 ^ 64) → length (numbers_in words) ≡ sum_by count_ones words
length-numbers_in [] fits = refl
length-numbers_in (w ∷ words) fits =
    let more : 64 * suc (length words) ≡ 64 + 64 * length words = omega arith in
    ap (λ m. length (filter (λ n. eqb (bit_of (w ∷ words) n) 1) (range_with_len 0 m))) more
    ∙ length-numbers_in_cons w words 64 (64 * length words) refl (fits 0)
    ∙ ap (λ n. count_ones w + n) (length-numbers_in words (λ k. fits (suc k)))
    ∙ sym (sum_by-cons count_ones w words)
