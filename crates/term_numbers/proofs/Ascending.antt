-- Laws of lists that ascend strictly by an order, and of the sets that they are.
use Rattle.std.proofs.Common.{◌≡◌, ◌↔◌, ◌⊎◌, inl, inr, ◌+◌, ◌≤◌, ℕ, Bool, true, ◌&&◌, refl, ap, arith, length, fold, List, [], ◌∷◌, ◌++◌, IsPermutation, IsSorted, Contains, sym, ◌∙◌, subst}
use Rattle.std.proofs.lemmas.Bool.Decides.{nat_tests}
use Rattle.std.proofs.Math.Dec.{eqb}
use Rattle.std.proofs.lemmas.Cmp.{tied_itself}
use Rattle.std.proofs.lemmas.List.Elements.{Contains-append_cases}
use Rattle.std.proofs.lemmas.List.Kept.{IsStrictlySortedBy-dedup, Contains-from_dedup, Contains-dedup}
use Rattle.std.proofs.lemmas.List.Sorted.{IsPermutation-sym, Contains-permutation}
use Rattle.std.proofs.lemmas.Map.Lookups.{CmpEqualImpliesEq, exact_bytes, exact_unsigned}
use Rattle.std.specs.BTreeSet.{insert_key}
use Rattle.std.specs.List.{dedup, AllByRecursion}
use Rattle.std.specs.List.Sorted.{IsStrictlySortedBy}
use Rattle.std.specs.Cmp.{IsTotalOrder, IsEquivalence, eq_by_cmp_equiv, then_total, on_total, nat_cmp_total}
use Rattle.std.specs.Cmp.Lexicographic.{lists_total}
use Rattle.std.specs.Ordering.{eq_by_cmp, is_eq, match_ordering, nat_cmp, ordering_then}
use Rattle.std.specs.declared.cmp.Ordering.{Ordering}
use Rattle.std.specs.declared.cmp.Ordering.TheVariants.{Less, Equal, Greater}
use Rattle.bm_term.specs.SetOf.{IsSetOf, set_of}
use Rattle.bm_term.proofs.Elements.{Contains-head, Contains-tail, Contains-cons_cases, Contains-nil}
use Rattle.bm_term.proofs.Sets.{IsSetOf-set_of, one_set}
use Rattle.term_numbers.specs.Order.{text_cmp, number_cmp, Numbered}

-- ---- all items

module _ {X : Type 0} (P : X → Type 0) where
  -- what holds of each item holds of all
  pub all_from_members : (xs : List X) → ((x : X) → Contains xs x → P x) → AllByRecursion P xs
  all_from_members [] each = tt
  all_from_members (x ∷ xs) each = (each x (Contains-head x xs), all_from_members xs (λ y there. each y (Contains-tail x xs y there)))

  -- what holds of all holds of each item
  pub member_of_all : (xs : List X) → AllByRecursion P xs → (x : X) → Contains xs x → P x
  member_of_all [] all x there = absurd (Contains-nil x there)
  member_of_all (y ∷ ys) all x there = by (λ rest. member_of_all ys all.1 x rest) (Contains-cons_cases y ys x there)
    where
      by : (Contains ys x → P x) → (y ≡ x) ⊎ Contains ys x → P x
      by later (inl same) = subst P same all.0
      by later (inr rest) = later rest

-- ---- sets

equal_from_test : (r : Ordering) → is_eq r ≡ true → r ≡ Equal
equal_from_test Less h = absurd (cc)
equal_from_test Equal h = refl
equal_from_test Greater h = absurd (cc)

module _ {X : Type 0} (cmp : X → X → Ordering) (o : IsTotalOrder cmp) (exact : CmpEqualImpliesEq cmp) where
  -- the set of a list has its items, in order
  pub set_of-is : (xs : List X) → IsSetOf cmp xs (set_of cmp xs)
  set_of-is xs = (IsSetOf-set_of cmp o exact xs (set_of cmp xs)).1 refl

  -- lists with the same items have one set
  pub set_of-same : (xs ys : List X) → ((x : X) → Contains xs x ↔ Contains ys x) → set_of cmp xs ≡ set_of cmp ys
  set_of-same xs ys same =
      let is = set_of-is xs in
      one_set cmp o exact ys (set_of cmp xs) (record {
        ascends = is.ascends;
        same = λ x. ((λ there. (same x).0 ((is.same x).0 there)), (λ there. (is.same x).1 ((same x).1 there)));
      })

  -- lists that ascend and have the same items are one
  pub same_members : (xs ys : List X) → IsStrictlySortedBy cmp xs → IsStrictlySortedBy cmp ys → ((x : X) → Contains xs x ↔ Contains ys x) → xs ≡ ys
  same_members xs ys hx hy same =
      one_set cmp o exact ys xs (record { ascends = hx; same = same })
      ∙ sym (one_set cmp o exact ys ys (record { ascends = hy; same = λ x. ((λ there. there), (λ there. there)) }))

  -- a sorted permutation, without what is beside an equal item, is the set of the list
  pub set_of-dedup : (same : X → X → Bool) → ((x y : X) → same x y ≡ eq_by_cmp cmp x y) → (xs ys : List X) → IsPermutation xs ys → IsSorted cmp ys → dedup same ys ≡ set_of cmp xs
  set_of-dedup same ties xs ys moved sorted =
      let back = IsPermutation-sym xs ys moved in
      let equals : IsEquivalence same = subst IsEquivalence (λ i x y. sym (ties x y) i) (eq_by_cmp_equiv o) in
      one_set cmp o exact xs (dedup same ys) (record {
        ascends = IsStrictlySortedBy-dedup o ties ys sorted;
        same = λ x. (
          λ at. Contains-permutation ys xs x back (Contains-from_dedup same ys x at),
          λ at. Contains-dedup equals (λ a b h. exact a b (equal_from_test (cmp a b) (sym (ties a b) ∙ h))) ys x (Contains-permutation xs ys x moved at),
        );
      })

-- an item more
length-insert : {X : Type 0} (cmp : X → X → Ordering) (set : List X) (x : X) → length (insert_key cmp set x) ≤ length set + 1
length-insert cmp [] x = omega arith
length-insert cmp (y ∷ set) x =
    let rest = length-insert cmp set x in
    elim (cmp x y) as (λ r. length (match_ordering r (x ∷ y ∷ set) (y ∷ set) (y ∷ insert_key cmp set x)) ≤ length (y ∷ set) + 1) [
      | Less ↦ omega arith
      | Equal ↦ omega arith
      | Greater ↦ omega (arith, rest)
    ]

length-fold : {X : Type 0} (cmp : X → X → Ordering) (set xs : List X) → length (fold (insert_key cmp) set xs) ≤ length set + length xs
length-fold cmp set [] = omega arith
length-fold cmp set (x ∷ xs) = omega (arith, length-fold cmp (insert_key cmp set x) xs, length-insert cmp set x)

-- the set of a list is not longer than the list
pub length-set_of : {X : Type 0} (cmp : X → X → Ordering) (xs : List X) → length (set_of cmp xs) ≤ length xs
length-set_of cmp xs = omega (arith, length-fold cmp [] xs)

-- ---- lists in a row

module _ {X : Type 0} (cmp : X → X → Ordering) where
  -- two lists that ascend, the first of which is below the second, ascend in a row
  pub ascends-append : (xs ys : List X) → IsStrictlySortedBy cmp xs → IsStrictlySortedBy cmp ys → ((x y : X) → Contains xs x → Contains ys y → cmp x y ≡ Less) → IsStrictlySortedBy cmp (xs ++ ys)
  unfolding IsStrictlySortedBy
  ascends-append [] ys hx hy less = hy
  ascends-append (x ∷ xs) ys hx hy less = (
    all_from_members (λ y. cmp x y ≡ Less) (xs ++ ys) (λ y there. by y (Contains-append_cases xs ys y there)),
    ascends-append xs ys hx.1 hy (λ u v at_u at_v. less u v (Contains-tail x xs u at_u) at_v),
  )
    where
      by : (y : X) → Contains xs y ⊎ Contains ys y → cmp x y ≡ Less
      by y (inl before) = member_of_all (λ z. cmp x z ≡ Less) xs hx.0 y before
      by y (inr after) = less x y (Contains-head x xs) after

-- ---- a list within another

module _ {X : Type 0} (cmp : X → X → Ordering) (o : IsTotalOrder cmp) where
  -- no item is below itself
  pub not_below_itself : (x : X) → cmp x x ≡ Less → ⊥
  not_below_itself x less = let tie = tied_itself o x in cc

  -- a list that ascends and is within another is no longer, and is the other where that is no longer
  pub record IsPart (xs ys : List X) : Type 0 where
    pub short : length xs ≤ length ys
    pub whole : length ys ≤ length xs → xs ≡ ys

  pub part_of_ascending : (xs ys : List X) → IsStrictlySortedBy cmp xs → IsStrictlySortedBy cmp ys → ((x : X) → Contains xs x → Contains ys x) → IsPart xs ys
  unfolding IsStrictlySortedBy
  part_of_ascending [] [] hx hy within = record { short = omega arith; whole = λ _. refl }
  part_of_ascending [] (y ∷ ys) hx hy within = record { short = omega arith; whole = λ le. absurd (omega arith) }
  part_of_ascending (x ∷ xs) [] hx hy within = absurd (Contains-nil x (within x (Contains-head x xs)))
  part_of_ascending (x ∷ xs) (y ∷ ys) hx hy within =
      by (λ inside. part_of_ascending xs ys hx.1 hy.1 inside) (λ inside. part_of_ascending (x ∷ xs) ys hx hy.1 inside) (Contains-cons_cases y ys x (within x (Contains-head x xs)))
    where
      above : (z : X) → Contains xs z → cmp x z ≡ Less
      above z there = member_of_all (λ u. cmp x u ≡ Less) xs hx.0 z there

      later : (z : X) → (y ≡ z → ⊥) → Contains (y ∷ ys) z → Contains ys z
      later z apart there = elim (Contains-cons_cases y ys z there) as (λ _. Contains ys z) [ inl same ↦ absurd (apart same) | inr rest ↦ rest ]

      by : (((z : X) → Contains xs z → Contains ys z) → IsPart xs ys) → (((z : X) → Contains (x ∷ xs) z → Contains ys z) → IsPart (x ∷ xs) ys) → (y ≡ x) ⊎ Contains ys x → IsPart (x ∷ xs) (y ∷ ys)
      by one two (inl same) =
          let rest = one (λ z there. later z (λ e. not_below_itself x (subst (λ u. cmp x u ≡ Less) (sym e ∙ same) (above z there))) (within z (Contains-tail x xs z there))) in
          let short = rest.short in
          record { short = omega arith; whole = λ le. λ i. sym same i ∷ rest.whole (omega arith) i }
      by one two (inr there) =
          let below : cmp y x ≡ Less = member_of_all (λ u. cmp y u ≡ Less) ys hy.0 x there in
          let rest = two (λ z at_z. elim (Contains-cons_cases x xs z at_z) as (λ _. Contains ys z) [
            | inl same ↦ subst (Contains ys) same there
            | inr after ↦ later z (λ e. not_below_itself y (subst (λ u. cmp y u ≡ Less) (sym e) (o.trans y x z below (above z after)))) (within z at_z)
          ]) in
          let short = rest.short in
          record { short = omega arith; whole = λ le. absurd (omega arith) }

module _ {X : Type 0} (cmp : X → X → Ordering) (o : IsTotalOrder cmp) (exact : CmpEqualImpliesEq cmp) where
  -- a list that ascends, and is within another that is no longer, has all that the other has
  pub has_all : (xs ys : List X) → IsStrictlySortedBy cmp xs → ((x : X) → Contains xs x → Contains ys x) → length ys ≤ length xs → (x : X) → Contains ys x → Contains xs x
  has_all xs ys hx within le x there =
      let is : IsSetOf cmp ys (set_of cmp ys) = set_of-is cmp o exact ys in
      let part = part_of_ascending cmp o xs (set_of cmp ys) hx is.ascends (λ z at. (is.same z).1 (within z at)) in
      let same = part.whole (omega (arith, length-set_of cmp ys)) in
      subst (λ l. Contains l x) (sym same) ((is.same x).1 there)

  -- a list that ascends has as many items as a list without more that has the same
  pub length_of_same : (xs ys : List X) → IsStrictlySortedBy cmp xs → ((x : X) → Contains xs x → Contains ys x) → length xs ≤ length ys
  length_of_same xs ys hx within =
      let is : IsSetOf cmp ys (set_of cmp ys) = set_of-is cmp o exact ys in
      let part = part_of_ascending cmp o xs (set_of cmp ys) hx is.ascends (λ z at. (is.same z).1 (within z at)) in
      let short = part.short in
      omega (arith, length-set_of cmp ys)

-- ---- the orders of texts and of numbered triples

-- the order of texts
pub text_cmp-total : IsTotalOrder text_cmp
text_cmp-total = lists_total nat_cmp_total

pub text_cmp-exact : CmpEqualImpliesEq text_cmp
text_cmp-exact x y tie = exact_bytes x y tie

-- two comparisons in turn tie where both do
both_tie : (r s : Ordering) → ordering_then r s ≡ Equal → (r ≡ Equal) × (s ≡ Equal)
both_tie Less s h = absurd (cc)
both_tie Equal s h = (refl, h)
both_tie Greater s h = absurd (cc)

-- the order of numbered triples
pub number_cmp-total : IsTotalOrder number_cmp
number_cmp-total =
    then_total
    (then_total (on_total (λ (t : Numbered). t.0) nat_cmp_total) (on_total (λ (t : Numbered). t.1) nat_cmp_total))
    (on_total (λ (t : Numbered). t.2) nat_cmp_total)

pub number_cmp-exact : CmpEqualImpliesEq number_cmp
number_cmp-exact t u tie =
    let objects = both_tie _ _ tie in
    let others = both_tie _ _ objects.0 in
    let s : t.0 ≡ u.0 = exact_unsigned t.0 u.0 others.0 in
    let p : t.1 ≡ u.1 = exact_unsigned t.1 u.1 others.1 in
    let r : t.2 ≡ u.2 = exact_unsigned t.2 u.2 objects.1 in
    λ i. (s i, p i, r i)

is_eq-then : (r s : Ordering) → is_eq (ordering_then r s) ≡ (is_eq r && is_eq s)
is_eq-then Less s = refl
is_eq-then Equal s = refl
is_eq-then Greater s = refl

is_eq-nat_cmp : (x y : ℕ) → eqb x y ≡ is_eq (nat_cmp x y)
is_eq-nat_cmp x y = grind (arith, nat_tests)

-- numbered triples are equal where they tie
pub number_eq-ties : (t u : Numbered) → ((eqb t.0 u.0 && eqb t.1 u.1) && eqb t.2 u.2) ≡ eq_by_cmp number_cmp t u
number_eq-ties t u =
    (λ i. (is_eq-nat_cmp t.0 u.0 i && is_eq-nat_cmp t.1 u.1 i) && is_eq-nat_cmp t.2 u.2 i)
    ∙ sym (is_eq-then (ordering_then (nat_cmp t.0 u.0) (nat_cmp t.1 u.1)) (nat_cmp t.2 u.2) ∙ ap (λ b. b && is_eq (nat_cmp t.2 u.2)) (is_eq-then (nat_cmp t.0 u.0) (nat_cmp t.1 u.1)))
