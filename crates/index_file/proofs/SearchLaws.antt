-- Laws of the search for a text among texts that ascend.
use Rattle.std.proofs.Common.{◌≡◌, ◌≢◌, inl, inr, ℕ, zero, suc, ◌+◌, ◌<◌, ◌≤◌, List, [], ◌∷◌, ◌++◌, length, drop, Contains, Some, refl, sym, ap, ◌∙◌, subst, add-one, arith}
use Rattle.std.proofs.lemmas.List.{drop_all}
use Rattle.std.proofs.lemmas.List.Elements.{Contains-append_cases}
use Rattle.std.proofs.lemmas.Map.Keys.{sorted_tail}
use Rattle.std.specs.List.{slice_get}
use Rattle.std.specs.List.Sorted.{IsStrictlySortedBy}
use Rattle.std.specs.declared.cmp.Ordering.{Ordering}
use Rattle.std.specs.declared.cmp.Ordering.TheVariants.{Less, Equal, Greater}
use Rattle.std.specs.Ordering.{ordering_reverse}
use Rattle.bm_term.proofs.Elements.{Contains-head, Contains-tail, Contains-cons_cases, Contains-nil}
use Rattle.term_numbers.specs.Order.{text_cmp}
use Rattle.term_numbers.proofs.Ascending.{text_cmp-total, text_cmp-exact}
use Rattle.term_numbers.proofs.Ascending.{member_of_all, not_below_itself}
use Rattle.index_file.proofs.TermOrderLaws.{ascends_drop, not_in_later}
use Rattle.index_file.specs.steps.Halving.{BeginsAt, IsBetween}

-- a text in a place is in the list
at_is_in : (i : ℕ) (x : List ℕ) (xs after : List (List ℕ)) → drop i xs ≡ x ∷ after → Contains xs x
at_is_in zero x [] after at = absurd cc
at_is_in zero x (q ∷ qs) after at = let same : q ≡ x = cc in subst (Contains (q ∷ qs)) same (Contains-head q qs)
at_is_in (suc i) x [] after at = absurd cc
at_is_in (suc i) x (q ∷ qs) after at = Contains-tail q qs x (at_is_in i x qs after at)

-- the first of texts that ascend is before each of the others
first_is_before : (x y : List ℕ) (xs : List (List ℕ)) → IsStrictlySortedBy text_cmp (x ∷ xs) → Contains xs y → text_cmp x y ≡ Less
unfolding IsStrictlySortedBy
first_is_before x y xs ascend there = member_of_all (λ z. text_cmp x z ≡ Less) xs ascend.0 y there

-- a text that is before the one sought is passed, with all before it
passed_at : (i : ℕ) (text x : List ℕ) (xs after : List (List ℕ)) → IsStrictlySortedBy text_cmp xs → drop i xs ≡ x ∷ after → text_cmp x text ≡ Less → Contains xs text → Contains (drop (suc i) xs) text
passed_at zero text x [] after ascend at less there = absurd cc
passed_at zero text x (q ∷ qs) after ascend at less there =
    let same : q ≡ x = cc in
    elim (Contains-cons_cases q qs text there) as (λ _. Contains qs text) [
      | inl is ↦ absurd (not_below_itself text_cmp text_cmp-total text (subst (λ y. text_cmp y text ≡ Less) (sym same ∙ is) less))
      | inr rest ↦ rest
    ]
passed_at (suc i) text x [] after ascend at less there = absurd cc
passed_at (suc i) text x (q ∷ qs) after ascend at less there =
    elim (Contains-cons_cases q qs text there) as (λ _. Contains (drop (suc i) qs) text) [
      | inl is ↦ (
          let first : text_cmp q x ≡ Less = first_is_before q x qs ascend (at_is_in i x qs after at) in
          absurd (not_below_itself text_cmp text_cmp-total q (text_cmp-total.trans q x q first (subst (λ y. text_cmp x y ≡ Less) (sym is) less))))
      | inr rest ↦ passed_at i text x qs after (sorted_tail text_cmp q qs ascend) at less rest
    ]

pub between_whole : (text : List ℕ) (xs : List (List ℕ)) (high : ℕ) → high ≡ length xs → IsBetween text xs 0 high
between_whole text xs high all = record {
  ordered = omega arith;
  within = omega arith;
  passed = λ there. there;
  begins = rw (drop_all high xs (omega arith)) tt;
}

pub between_upper : (text x : List ℕ) (xs : List (List ℕ)) (low high middle : ℕ) → IsStrictlySortedBy text_cmp xs → middle < high → drop middle xs ≡ x ∷ drop (middle + 1) xs → text_cmp x text ≡ Less → IsBetween text xs low high → IsBetween text xs (middle + 1) high
between_upper text x xs low high middle ascend below at less between = record {
  ordered = omega arith;
  within = between.within;
  passed = λ there. rw add-one (passed_at middle text x xs (drop (middle + 1) xs) ascend at less there);
  begins = between.begins;
}

pub between_lower : (text x : List ℕ) (xs after : List (List ℕ)) (low high middle : ℕ) → low ≤ middle → middle ≤ high → drop middle xs ≡ x ∷ after → (text_cmp x text ≡ Less → ⊥) → IsBetween text xs low high → IsBetween text xs low middle
between_lower text x xs after low high middle up below at not_before between =
    let within = between.within in
    record { ordered = up; within = omega arith; passed = between.passed; begins = rw at not_before }

-- at one place the text is there, or nowhere
pub nowhere_past : (text : List ℕ) (xs : List (List ℕ)) (place : ℕ) → length xs ≤ place → IsBetween text xs place place → Contains xs text → ⊥
nowhere_past text xs place past between there =
    Contains-nil text (subst (λ l. Contains l text) (drop_all place xs past) (between.passed there))

not_after : (r : Ordering) → (r ≡ Less → ⊥) → (r ≡ Equal → ⊥) → ordering_reverse r ≡ Less
not_after Less before same = absurd (before refl)
not_after Equal before same = absurd (same refl)
not_after Greater before same = refl

pub nowhere_other : (text x : List ℕ) (xs after : List (List ℕ)) (place : ℕ) → IsStrictlySortedBy text_cmp xs → drop place xs ≡ x ∷ after → x ≢ text → IsBetween text xs place place → Contains xs text → ⊥
nowhere_other text x xs after place ascend at apart between there =
    let not_before : text_cmp x text ≡ Less → ⊥ = subst (BeginsAt text) at between.begins in
    let less : text_cmp text x ≡ Less = text_cmp-total.antisymm text x ∙ not_after (text_cmp x text) not_before (λ tie. apart (text_cmp-exact x text tie)) in
    not_in_later text x after (subst (IsStrictlySortedBy text_cmp) at (ascends_drop place xs ascend)) less (subst (λ l. Contains l text) at (between.passed there))

-- ---- the text in a place

pub got_at : (i : ℕ) (x : List ℕ) (xs after : List (List ℕ)) → drop i xs ≡ x ∷ after → slice_get xs i ≡ Some x
got_at zero x [] after at = absurd cc
got_at zero x (q ∷ qs) after at = let same : q ≡ x = cc in ap Some same
got_at (suc i) x [] after at = absurd cc
got_at (suc i) x (q ∷ qs) after at = got_at i x qs after at

-- in the first of two lists, and in the second
pub got_left : (i : ℕ) (x : List ℕ) (xs ys : List (List ℕ)) → slice_get xs i ≡ Some x → slice_get (xs ++ ys) i ≡ Some x
got_left i x [] ys at = absurd cc
got_left zero x (q ∷ qs) ys at = at
got_left (suc i) x (q ∷ qs) ys at = got_left i x qs ys at

pub got_right : (i : ℕ) (x : List ℕ) (xs ys : List (List ℕ)) → slice_get ys i ≡ Some x → slice_get (xs ++ ys) (length xs + i) ≡ Some x
got_right i x [] ys at = let none : 0 + i ≡ i = omega arith in rw none at
got_right i x (q ∷ qs) ys at =
    let one_more : suc (length qs) + i ≡ suc (length qs + i) = omega arith in
    rw one_more (got_right i x qs ys at)

pub in_neither : (x : List ℕ) (xs ys : List (List ℕ)) → (Contains xs x → ⊥) → (Contains ys x → ⊥) → Contains (xs ++ ys) x → ⊥
in_neither x xs ys first second there = elim (Contains-append_cases xs ys x there) as (λ _. ⊥) [ inl at ↦ first at | inr at ↦ second at ]
