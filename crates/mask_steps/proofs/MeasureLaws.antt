-- How many numbers masks have, where none has a number more.
use Rattle.std.proofs.Common.{◌≡◌, ℕ, zero, suc, ◌+◌, ◌*◌, ◌<◌, ◌≤◌, ◌^◌, ◌&&◌, ◌==◌, List, [], ◌∷◌, length, filter, take, Bool, true, inl, inr, Some, refl, sym, ap, subst, ◌∙◌, arith}
use Rattle.std.specs.Prelude.{slice_get, Contains, sum_by}
use Rattle.std.specs.List.{range_with_len}
use Rattle.std.proofs.lemmas.Bool.{cases_Bool, cases_eq, both_ways}
use Rattle.std.proofs.lemmas.List.Elements.{filter_agree}
use Rattle.std.proofs.lemmas.List.Sums.{sum_by-cons, sum_by_more}
use Rattle.std.proofs.lemmas.Option.{none-some, same_Some, slice_get_within, get_or_from_slice_get}
use Rattle.row_lanes.specs.Words.{bit_of, Has, numbers_in}
use Rattle.row_lanes.proofs.NumberLaws.{Contains-numbers_in}
use Rattle.mask_pool.specs.Mask.{Stretch, words_for}
use Rattle.mask_pool.specs.Region.{Region, IsLive, words_of}
use Rattle.mask_pool.proofs.Loans.{length-words_of}
use Rattle.cube_slices.specs.Lines.{pairs_of}
use Rattle.pattern_rel.specs.Left.{Relation, pairs_left, is_in, is_left}
use Rattle.pattern_rel.proofs.PairLaws.{Contains-filter, Contains-front, none_there, is_in-has}
use Rattle.pattern_rel.specs.Folds.{IsUsable}
use Rattle.tree_relations.specs.declared.prepared.Entry.{Entry}
use Rattle.tree_relations.specs.declared.prepared.Prepared.{Prepared}
use Rattle.mask_steps.specs.Measure.{relation_bits, mask_bits, Narrows}
use Rattle.mask_steps.proofs.PlaceLaws.{StayBut, first_place, second_place}
use Rattle.mask_steps.proofs.HeldLaws.{lists_by, first_stays, second_stays}

-- ---- sums

module _ {X : Type 0} (f g : X → ℕ) where
  -- no summand is more than the other: nor is the sum, and where the sums are equal, so are the summands
  sum_within : (xs : List X) → ((k : ℕ) (x : X) → slice_get xs k ≡ Some x → f x ≤ g x) → (sum_by f xs ≤ sum_by g xs) × (sum_by f xs ≡ sum_by g xs → (k : ℕ) (x : X) → slice_get xs k ≡ Some x → f x ≡ g x)
  sum_within [] less = (omega arith, λ is k x at. absurd (none-some x at))
  sum_within (y ∷ xs) less =
      let rest = sum_within xs (λ k x at. less (suc k) x at) in
      let head = less zero y refl in
      let fs = sum_by-cons f y xs in
      let gs = sum_by-cons g y xs in
      (omega arith, λ is. at_each xs y (rest.1 (omega arith)) (omega arith))
    where
      at_each : (xs : List X) (y : X) → ((k : ℕ) (x : X) → slice_get xs k ≡ Some x → f x ≡ g x) → f y ≡ g y → (k : ℕ) (x : X) → slice_get (y ∷ xs) k ≡ Some x → f x ≡ g x
      at_each xs y rest head zero x at = subst (λ (z : X). f z ≡ g z) (same_Some y x at) head
      at_each xs y rest head (suc k) x at = rest k x at

-- ---- filters

module _ (p q : ℕ → Bool) (less : (n : ℕ) → q n ≡ true → p n ≡ true) where
  -- what passes the stricter test is no more, and where it is as much, the tests are alike
  filter_within : (xs : List ℕ) → (length (filter q xs) ≤ length (filter p xs)) × (length (filter q xs) ≡ length (filter p xs) → (n : ℕ) → Contains xs n → p n ≡ true → q n ≡ true)
  filter_within [] = (omega arith, λ is n there passes. absurd (none_there n there))
  filter_within (x ∷ xs) =
      let rest = filter_within xs in
      elim (cases_Bool (q x)) [
        | inl strict ↦ (let also = less x strict in rw (strict, also) (
          omega (arith, rest.0),
          λ is n there passes. elim ((Contains-front x xs n).0 there) [
            | inl same ↦ subst (λ (m : ℕ). q m ≡ true) same strict
            | inr later ↦ rest.1 (omega arith) n later passes
          ],
        ))
        | inr fails ↦ elim (cases_Bool (p x)) [
          | inl passes ↦ rw (fails, passes) (omega (arith, rest.0), λ is. absurd (omega (arith, rest.0)))
          | inr also ↦ rw (fails, also) (
            rest.0,
            λ is n there passes. elim ((Contains-front x xs n).0 there) [
              | inl same ↦ absurd (both_ways (p x) also (ap p same ∙ passes))
              | inr later ↦ rest.1 is n later passes
            ],
          )
        ]
      ]

-- ---- words

-- the words are as many, and have no number more
abbrev pub IsWithin : List ℕ → List ℕ → Type 0
IsWithin fresh old = (length fresh ≡ length old) × ((n : ℕ) → Has fresh n → Has old n)

pub within_itself : (fresh old : List ℕ) → fresh ≡ old → IsWithin fresh old
within_itself fresh old is = (ap (λ (words : List ℕ). length words) is, λ n has. subst (λ (words : List ℕ). Has words n) is has)

numbers_within : (fresh old : List ℕ) → IsWithin fresh old → (length (numbers_in fresh) ≤ length (numbers_in old)) × (length (numbers_in fresh) ≡ length (numbers_in old) → (n : ℕ) → Has old n → Has fresh n)
numbers_within fresh old within =
    let range : List ℕ = range_with_len 0 (64 * length old) in
    let same : numbers_in fresh ≡ filter (λ n. bit_of fresh n == 1) range = ap (λ (k : ℕ). filter (λ n. bit_of fresh n == 1) (range_with_len 0 (64 * k))) within.0 in
    let both = filter_within (λ n. bit_of old n == 1) (λ n. bit_of fresh n == 1) (λ n has. (is_in-has old n).1 (within.1 n ((is_in-has fresh n).0 has))) range in (
      subst (λ (xs : List ℕ). length xs ≤ length (numbers_in old)) (sym same) both.0,
      λ is n has.
          let there = ((Contains-filter (λ m. bit_of old m == 1) range n).0 ((Contains-numbers_in old n).1 has)).0 in
          (is_in-has fresh n).0 (both.1 (sym (ap (λ (xs : List ℕ). length xs) same) ∙ is) n there ((is_in-has old n).1 has)),
    )

-- sets that are alike pass one test
is_in-same : (fresh old : List ℕ) → ((n : ℕ) → Has fresh n → Has old n) → ((n : ℕ) → Has old n → Has fresh n) → (n : ℕ) → is_in fresh n ≡ is_in old n
is_in-same fresh old there back n = elim (cases_Bool (is_in old n)) [
  | inl has ↦ (is_in-has fresh n).1 (back n ((is_in-has old n).0 has)) ∙ sym has
  | inr none ↦ elim (cases_Bool (is_in fresh n)) [
    | inl has ↦ absurd (both_ways (is_in old n) none ((is_in-has old n).1 (there n ((is_in-has fresh n).0 has))))
    | inr also ↦ also ∙ sym none
  ]
]

-- ---- relations

-- the masks of a relation have no number more in the new pool
pub record RelationWithin (old fresh : Region) (rel : Relation) : Type 0 where
  pub first : IsWithin (words_of fresh rel.first) (words_of old rel.first)
  pub second : IsWithin (words_of fresh rel.second) (words_of old rel.second)

relation_narrows : (old fresh : Region) (rel : Relation) → RelationWithin old fresh rel → (relation_bits fresh rel ≤ relation_bits old rel) × (relation_bits fresh rel ≡ relation_bits old rel → pairs_left fresh rel ≡ pairs_left old rel)
relation_narrows old fresh rel within =
    let first = numbers_within (words_of fresh rel.first) (words_of old rel.first) within.first in
    let second = numbers_within (words_of fresh rel.second) (words_of old rel.second) within.second in (
      omega (arith, first.0, second.0),
      λ is.
          let firsts = is_in-same (words_of fresh rel.first) (words_of old rel.first) within.first.1 (first.1 (omega (arith, first.0, second.0))) in
          let seconds = is_in-same (words_of fresh rel.second) (words_of old rel.second) within.second.1 (second.1 (omega (arith, first.0, second.0))) in
          filter_agree (is_left (words_of fresh rel.first) (words_of fresh rel.second)) (is_left (words_of old rel.first) (words_of old rel.second))
          (λ t. ap (λ (b : Bool). b && is_in (words_of fresh rel.second) t.1) (firsts t.0) ∙ ap (λ (b : Bool). is_in (words_of old rel.first) t.0 && b) (seconds t.1)) (pairs_of rel.lines),
    )

-- where no mask of a relation has a number more, the measure is no more
pub narrows_by : (p : Prepared) (q : Region) → ((i : ℕ) (e : Entry) → slice_get p.entries i ≡ Some e → RelationWithin p.pool q e.rel) → Narrows p (record p { pool = q })
narrows_by p q within =
    let sums = sum_within (λ (e : Entry). relation_bits q e.rel) (λ (e : Entry). relation_bits p.pool e.rel) p.entries (λ i e at. (relation_narrows p.pool q e.rel (within i e at)).0) in
    record {
      fewer = sums.0;
      same = λ is i. lists_by p q i (λ e at. (relation_narrows p.pool q e.rel (within i e at)).1 (sums.1 is i e at));
    }

-- where the relations' masks have their words, the measure stays
pub bits_stay : (p : Prepared) (q : Region) (k s : ℕ) → StayBut p q k s → k < length p.work → s < length p.work → mask_bits (record p { pool = q }) ≡ mask_bits p
bits_stay p q k s stay work also = go p.entries (λ i e at.
    ap (λ (words : List ℕ). length (numbers_in words) + length (numbers_in (words_of q e.rel.second))) (first_stays p q k s stay i e at (omega arith) (omega arith))
    ∙ ap (λ (words : List ℕ). length (numbers_in (words_of p.pool e.rel.first)) + length (numbers_in words)) (second_stays p q k s stay i e at (omega arith) (omega arith)))
  where
    go : (entries : List Entry) → ((i : ℕ) (e : Entry) → slice_get entries i ≡ Some e → relation_bits q e.rel ≡ relation_bits p.pool e.rel) → sum_by (λ (e : Entry). relation_bits q e.rel) entries ≡ sum_by (λ (e : Entry). relation_bits p.pool e.rel) entries
    go [] same = refl
    go (e ∷ entries) same =
        let fs = sum_by-cons (λ (e : Entry). relation_bits q e.rel) e entries in
        let gs = sum_by-cons (λ (e : Entry). relation_bits p.pool e.rel) e entries in
        let head = same zero e refl in
        let rest = go entries (λ i d at. same (suc i) d at) in
        fs ∙ (omega arith ∙ sym gs)

-- ---- the count

-- the words of a mask that can be used are few
pub few_words : (pool : Region) (m own : Stretch) (n : ℕ) → m ≡ own → n ≡ words_for m.bits → IsUsable pool own → n ≤ 2 ^ 25
few_words pool m own n is len usable = len-few n m (subst (λ (s : Stretch). words_for s.bits ≤ 2 ^ 25) (sym is) usable.few) len
  where
    len-few : (n : ℕ) (m : Stretch) → words_for m.bits ≤ 2 ^ 25 → n ≡ words_for m.bits → n ≤ 2 ^ 25
    len-few n m few len = omega (arith, few, len)

pub counted : (pool : Region) (m own : Stretch) (words : List ℕ) (n : ℕ) → m ≡ own → words ≡ words_of pool m → n ≡ length (numbers_in words) → n ≡ length (numbers_in (words_of pool own))
counted pool m own words n is read count = count ∙ (ap (λ (ws : List ℕ). length (numbers_in ws)) read ∙ ap (λ (s : Stretch). length (numbers_in (words_of pool s))) is)

-- one relation more
pub bits_more : (p : Prepared) (i : ℕ) (e : Entry) (total first second : ℕ) → slice_get p.entries i ≡ Some e → total ≡ sum_by (λ (e : Entry). relation_bits p.pool e.rel) (take i p.entries) → first ≡ length (numbers_in (words_of p.pool e.rel.first)) → second ≡ length (numbers_in (words_of p.pool e.rel.second)) → total + (first + second) ≡ sum_by (λ (e : Entry). relation_bits p.pool e.rel) (take (i + 1) p.entries)
bits_more p i e total first second at sum one other =
    let more = sum_by_more (λ (e : Entry). relation_bits p.pool e.rel) p.entries i e (slice_get_within p.entries i e at) in
    let here = ap (λ (d : Entry). relation_bits p.pool d.rel) (get_or_from_slice_get p.entries i e e at) in
    omega (arith, more, here, sum, one, other)

-- ---- one mask of a relation is narrowed

-- a mask that was narrowed has no number more
pub narrowed_within : (p : Prepared) (q : Region) (m : Stretch) → IsLive p.pool m → IsLive q m → ((n : ℕ) → Has (words_of q m) n → Has (words_of p.pool m) n) → IsWithin (words_of q m) (words_of p.pool m)
narrowed_within p q m was live less = (length-words_of q m live ∙ sym (length-words_of p.pool m was), less)

module _ (p : Prepared) (q : Region) (i : ℕ) (e : Entry) (at : slice_get p.entries i ≡ Some e) where
  -- the first mask of the entry in a place is narrowed, and no other is written
  pub first_narrows : StayBut p q (first_place p i) (first_place p i) → IsWithin (words_of q e.rel.first) (words_of p.pool e.rel.first) → Narrows p (record p { pool = q })
  first_narrows stay within = narrows_by p q (λ j d there. elim (cases_eq j i) [
    | inl is ↦ (let same = same_Some e d (sym at ∙ (ap (λ (k : ℕ). slice_get p.entries k) (sym is) ∙ there)) in record {
      first = subst (λ (x : Entry). IsWithin (words_of q x.rel.first) (words_of p.pool x.rel.first)) same within;
      second = within_itself _ _ (second_stays p q (first_place p i) (first_place p i) stay j d there (omega arith) (omega arith));
    })
    | inr differ ↦ record {
      first = within_itself _ _ (first_stays p q (first_place p i) (first_place p i) stay j d there (omega arith) (omega arith));
      second = within_itself _ _ (second_stays p q (first_place p i) (first_place p i) stay j d there (omega arith) (omega arith));
    }
  ])

  pub second_narrows : StayBut p q (second_place p i) (second_place p i) → IsWithin (words_of q e.rel.second) (words_of p.pool e.rel.second) → Narrows p (record p { pool = q })
  second_narrows stay within = narrows_by p q (λ j d there. elim (cases_eq j i) [
    | inl is ↦ (let same = same_Some e d (sym at ∙ (ap (λ (k : ℕ). slice_get p.entries k) (sym is) ∙ there)) in record {
      first = within_itself _ _ (first_stays p q (second_place p i) (second_place p i) stay j d there (omega arith) (omega arith));
      second = subst (λ (x : Entry). IsWithin (words_of q x.rel.second) (words_of p.pool x.rel.second)) same within;
    })
    | inr differ ↦ record {
      first = within_itself _ _ (first_stays p q (second_place p i) (second_place p i) stay j d there (omega arith) (omega arith));
      second = within_itself _ _ (second_stays p q (second_place p i) (second_place p i) stay j d there (omega arith) (omega arith));
    }
  ])
