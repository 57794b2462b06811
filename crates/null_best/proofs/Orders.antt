-- The order of rows: only equal rows tie, and in a group they ascend by their cells. What a search in a group learns
-- from a row.
use Rattle.std.proofs.Common.{◌≡◌, ◌⊎◌, inl, inr, ℕ, ◌+◌, ◌<◌, ◌≤◌, Bool, true, false, List, [], ◌∷◌, length, get_or, refl, arith, sym, ◌∙◌, ap, subst, slice_index_or}
use Rattle.std.proofs.lemmas.Bool.{cases_lt, cases_order}
use Rattle.std.proofs.lemmas.List.{get_or_default}
use Rattle.std.proofs.lemmas.Map.Keys.{Less-from_sorted}
use Rattle.std.proofs.lemmas.Map.Lookups.{CmpEqualImpliesEq, exact_bytes}
use Rattle.std.specs.declared.cmp.Ordering.{Ordering}
use Rattle.std.specs.declared.cmp.Ordering.TheVariants.{Less, Equal, Greater}
use Rattle.std.specs.Cmp.{IsTotalOrder, nat_cmp_is, nat_cmp_total, tied_itself}
use Rattle.std.specs.Cmp.Lexicographic.{slice_cmp, lists_total}
use Rattle.std.specs.List.Sorted.{IsStrictlySortedBy}
use Rattle.std.specs.Ordering.{nat_cmp, ordering_then, ordering_reverse, is_lt}
use Rattle.null_best.specs.declared.groups.Group.{Group}
use Rattle.null_best.specs.steps.Groups.{row_at, IsIn, IsGroup}
use Rattle.null_best.specs.steps.Keys.{AreWords, IsKey, bound_set, head_of, key_cmp, key_cmp-total}
use Rattle.null_best.specs.steps.Searches.{Matches}

second_equal : (n s : Ordering) → ordering_then n s ≡ Equal → s ≡ Equal
second_equal Less s h = absurd (cc)
second_equal Equal s h = h
second_equal Greater s h = absurd (cc)

pub key_cmp-exact : CmpEqualImpliesEq key_cmp
key_cmp-exact a b h = exact_bytes a b (second_equal (nat_cmp (bound_set a) (bound_set b)) (slice_cmp nat_cmp a b) h)

cmp_itself : (a b : List ℕ) → a ≡ b → key_cmp a b ≡ Equal
cmp_itself a b same = subst (λ c. key_cmp a c ≡ Equal) same (tied_itself key_cmp-total a)

module _ (keys : List (List ℕ)) (group : Group) (ascends : IsStrictlySortedBy key_cmp keys) (is : IsGroup keys group) where
  -- two rows of a group, by their places
  less_rows : (i j : ℕ) → IsIn group j → i < j → key_cmp (row_at keys i) (row_at keys j) ≡ Less
  less_rows i j at lt = Less-from_sorted key_cmp keys i j [] ascends lt (omega (arith, at.below, is.binds.within))

  module _ (cells : List ℕ) (i : ℕ) (at : IsIn group i) where
    abbrev compared : Ordering
    compared = key_cmp (row_at keys i) cells

    -- the place of a match, against that of a row
    same_place : (k : ℕ) → Matches keys group cells k → k ≡ i → compared ≡ Equal
    same_place k match same = cmp_itself (row_at keys i) cells (ap (row_at keys) (sym same) ∙ match.cells_are)

    earlier : (k : ℕ) → Matches keys group cells k → k < i → compared ≡ Greater
    earlier k match lt =
        let less : key_cmp cells (row_at keys i) ≡ Less = subst (λ c. key_cmp c (row_at keys i) ≡ Less) match.cells_are (less_rows k i at lt) in
        key_cmp-total.antisymm (row_at keys i) cells ∙ ap ordering_reverse less

    later : (k : ℕ) → Matches keys group cells k → i < k → compared ≡ Less
    later k match lt = subst (λ c. key_cmp (row_at keys i) c ≡ Less) match.cells_are (less_rows i k match.place lt)

    -- it is after a row that is less, at or before a row that is not less, and before one that is greater
    pub after_less : is_lt compared ≡ true → (k : ℕ) → Matches keys group cells k → i < k
    after_less less k match = elim (cases_order k i) [
      | inl same ↦ absurd (cc (ap is_lt (same_place k match same)))
      | inr others ↦ elim others [ inl lt ↦ absurd (cc (ap is_lt (earlier k match lt))) | inr lt ↦ lt ]
    ]

    pub until_not_less : is_lt compared ≡ false → (k : ℕ) → Matches keys group cells k → k < i + 1
    until_not_less not_less k match = elim (cases_lt i k) [
      | inl lt ↦ absurd (cc (ap is_lt (later k match lt)))
      | inr le ↦ omega arith
    ]

    pub before_greater : compared ≡ Greater → (k : ℕ) → Matches keys group cells k → k < i
    before_greater greater k match = elim (cases_order k i) [
      | inl same ↦ absurd (cc (same_place k match same))
      | inr others ↦ elim others [ inl lt ↦ lt | inr lt ↦ absurd (cc (later k match lt)) ]
    ]

-- no two places of a group have the same cells
pub match-place : (keys : List (List ℕ)) (group : Group) → IsStrictlySortedBy key_cmp keys → IsGroup keys group → (cells : List ℕ) (j k : ℕ) → Matches keys group cells j → Matches keys group cells k → k ≡ j
match-place keys group ascends is cells j k first second = elim (cases_order k j) [
  | inl same ↦ same
  | inr others ↦ elim others [
    | inl lt ↦ absurd (cc (less_rows keys group ascends is k j first.place lt, cmp_itself (row_at keys k) (row_at keys j) (second.cells_are ∙ sym first.cells_are)))
    | inr lt ↦ absurd (cc (less_rows keys group ascends is j k second.place lt, cmp_itself (row_at keys j) (row_at keys k) (first.cells_are ∙ sym second.cells_are)))
  ]
]

-- what a comparison with a row says of the row at its place
pub read_row : (keys : List (List ℕ)) (k : ℕ) (x : List ℕ) → k < length keys → x ≡ get_or keys k x → row_at keys k ≡ x
read_row keys k x within is = get_or_default keys k [] x within ∙ sym is

pub tested-row : (keys : List (List ℕ)) (k : ℕ) (x cells : List ℕ) (test answer : Bool) → k < length keys → x ≡ get_or keys k x →
    test ≡ is_lt (key_cmp x cells) → test ≡ answer → is_lt (key_cmp (row_at keys k) cells) ≡ answer
tested-row keys k x cells test answer within is tests tells = ap (λ row. is_lt (key_cmp row cells)) (read_row keys k x within is) ∙ sym tests ∙ tells

pub compared-row : (keys : List (List ℕ)) (k : ℕ) (x cells : List ℕ) (order answer : Ordering) → k < length keys → x ≡ get_or keys k x →
    order ≡ key_cmp x cells → order ≡ answer → key_cmp (row_at keys k) cells ≡ answer
compared-row keys k x cells order answer within is compares tells = ap (λ row. key_cmp row cells) (read_row keys k x within is) ∙ sym compares ∙ tells

cells_total : IsTotalOrder (slice_cmp nat_cmp)
cells_total = lists_total nat_cmp_total

-- the first two cells of rows that differ there tell their order
less-head : (a b : List ℕ) → AreWords a → AreWords b → head_of a < head_of b → slice_cmp nat_cmp a b ≡ Less
unfolding head_of
less-head [] [] words others lt = absurd (omega arith)
less-head [] (y ∷ b) words others lt = refl
less-head (x ∷ a) [] words others lt = absurd (omega arith)
less-head (x ∷ a) (y ∷ b) words others lt = elim (cases_order x y) [
  | inl same ↦ ap (λ o. ordering_then o (slice_cmp nat_cmp a b)) (sym (nat_cmp_is x y Equal same)) ∙ second a b (omega (arith, same, lt))
  | inr either ↦ elim either [
    | inl less ↦ ap (λ o. ordering_then o (slice_cmp nat_cmp a b)) (sym (nat_cmp_is x y Less less))
    | inr greater ↦ absurd (omega (arith, lt, words 1, others 1, greater))
  ]
] where
  second : (xs ys : List ℕ) → get_or xs 0 0 < get_or ys 0 0 → slice_cmp nat_cmp xs ys ≡ Less
  second [] [] h = absurd (omega arith)
  second [] (v ∷ ys) h = refl
  second (u ∷ xs) [] h = absurd (omega arith)
  second (u ∷ xs) (v ∷ ys) h = ap (λ o. ordering_then o (slice_cmp nat_cmp xs ys)) (sym (nat_cmp_is u v Less h))

-- so cells are compared just where these are the same
pub head-then : (a b : List ℕ) → AreWords a → AreWords b → ordering_then (nat_cmp (head_of a) (head_of b)) (slice_cmp nat_cmp a b) ≡ slice_cmp nat_cmp a b
head-then a b words others = elim (cases_order (head_of a) (head_of b)) [
  | inl same ↦ ap (λ o. ordering_then o (slice_cmp nat_cmp a b)) (sym (nat_cmp_is (head_of a) (head_of b) Equal same))
  | inr either ↦ elim either [
    | inl less ↦ ap (λ o. ordering_then o (slice_cmp nat_cmp a b)) (sym (nat_cmp_is (head_of a) (head_of b) Less less)) ∙ sym (less-head a b words others less)
    | inr more ↦
        let greater : slice_cmp nat_cmp a b ≡ Greater = cells_total.antisymm a b ∙ ap ordering_reverse (less-head b a others words more) in
        ap (λ o. ordering_then o (slice_cmp nat_cmp a b)) (sym (nat_cmp_is (head_of a) (head_of b) Greater more)) ∙ sym greater
  ]
]

differs : (o s : Ordering) → (o ≡ Equal → ⊥) → ordering_then o s ≡ o
differs Less s other = refl
differs Equal s other = absurd (other refl)
differs Greater s other = refl

pub compare-heads : (a b : List ℕ) (a_vars a_head b_vars b_head : ℕ) (first second : Ordering) → IsKey a_vars a_head a → IsKey b_vars b_head b →
    first ≡ nat_cmp a_vars b_vars → first ≡ Equal → second ≡ nat_cmp a_head b_head → (second ≡ Equal → ⊥) → second ≡ key_cmp a b
compare-heads a b a_vars a_head b_vars b_head first second is other sets same heads differ =
    let tie : nat_cmp (bound_set a) (bound_set b) ≡ Equal =
    ap (λ n. nat_cmp n (bound_set b)) (sym is.vars_are) ∙ ap (nat_cmp a_vars) (sym other.vars_are) ∙ sym sets ∙ same in
    let keyed : key_cmp a b ≡ slice_cmp nat_cmp a b = ap (λ o. ordering_then o (slice_cmp nat_cmp a b)) tie in
    let told : second ≡ nat_cmp (head_of a) (head_of b) = heads ∙ ap (λ n. nat_cmp n b_head) is.head_is ∙ ap (nat_cmp (head_of a)) other.head_is in
    sym (differs second (slice_cmp nat_cmp a b) differ) ∙ ap (λ o. ordering_then o (slice_cmp nat_cmp a b)) told ∙ head-then a b is.words other.words ∙ sym keyed
