-- A list in ascending order is the only ascending one of its items, where only equal items tie. Without what stands
-- beside an equal item it is their set.
use Rattle.std.proofs.Common.{◌≡◌, ◌↔◌, ℕ, zero, suc, add-one, ◌+◌, ◌<◌, ◌≤◌, Bool, true, false, cond, if◌then◌else◌, List, [], ◌∷◌, length, get_or, refl, arith, sym, ◌∙◌, ap, subst, IsPermutation, IsSorted}
use Rattle.std.proofs.lemmas.List.Kept.{IsStrictlySortedBy-dedup, Contains-from_dedup, Contains-dedup}
use Rattle.std.proofs.lemmas.List.Sorted.{ranks_by, sorted_far, sum_by-IsPermutation, IsPermutation-refl, IsPermutation-sym, IsPermutation-trans, IsPermutation-cons, IsPermutation-middle, Contains-permutation}
use Rattle.std.proofs.lemmas.List.Sums.{sum_by-cons}
use Rattle.std.proofs.lemmas.Map.Lookups.{CmpEqualImpliesEq}
use Rattle.std.specs.List.{sum_by, dedup}
use Rattle.std.specs.Cmp.{IsTotalOrder, IsStrictWeakOrder, IsEquivalence, eq_by_cmp_equiv}
use Rattle.std.specs.Ordering.{is_lt, is_eq, eq_by_cmp, ordering_reverse}
use Rattle.std.specs.declared.cmp.Ordering.{Ordering}
use Rattle.std.specs.declared.cmp.Ordering.TheVariants.{Less, Equal, Greater}
use Rattle.bm_term.specs.SetOf.{set_of}
use Rattle.bm_term.proofs.Sets.{one_set}
use Rattle.alg_model.specs.Answers.{put_in_order, in_order}

module _ {X : Type 0} (cmp : X → X → Ordering) (o : IsTotalOrder cmp) (exact : CmpEqualImpliesEq cmp) where
  abbrev lt : X → X → Bool
  lt x y = is_lt (cmp x y)

  order : IsStrictWeakOrder lt
  order = ranks_by o (λ x. x)

  -- no item is less than x
  abbrev NoneLess : X → List X → Type 0
  NoneLess x [] = Unit {0}
  NoneLess x (y ∷ ys) = (lt y x ≡ false) × NoneLess x ys

  abbrev Rises : List X → Type 0
  Rises [] = Unit {0}
  Rises (x ∷ xs) = NoneLess x xs × Rises xs

  abbrev tick : X → X → ℕ
  tick x y = cond (is_eq (cmp x y)) 1 0

  -- how often x is in the list
  abbrev count : X → List X → ℕ
  count x [] = 0
  count x (y ∷ ys) = tick x y + count x ys

  count-sum : (x : X) (xs : List X) → sum_by (tick x) xs ≡ count x xs
  count-sum x [] = refl
  count-sum x (y ∷ ys) = sum_by-cons (tick x) y ys ∙ ap (λ n. tick x y + n) (count-sum x ys)

  abbrev HasSameCounts : List X → List X → Type 0
  HasSameCounts xs ys = (x : X) → count x xs ≡ count x ys

  same_from_order : (r s : Ordering) → r ≡ ordering_reverse s → is_lt r ≡ false → is_lt s ≡ false → r ≡ Equal
  same_from_order Less s e h k = absurd (cc)
  same_from_order Equal s e h k = refl
  same_from_order Greater Less e h k = absurd (cc)
  same_from_order Greater Equal e h k = absurd (cc)
  same_from_order Greater Greater e h k = absurd (cc)

  -- items of which neither is less are the same
  same_item : (x y : X) → lt x y ≡ false → lt y x ≡ false → x ≡ y
  same_item x y h k = exact x y (same_from_order (cmp x y) (cmp y x) (o.antisymm x y) h k)

  NoneLess-trans : (x y : X) (xs : List X) → lt y x ≡ false → NoneLess y xs → NoneLess x xs
  NoneLess-trans x y [] h n = tt
  NoneLess-trans x y (z ∷ xs) h n = (order.chain z y x n.0 h, NoneLess-trans x y xs h n.1)

  NoneLess-put : (x y : X) (ys : List X) → lt x y ≡ false → NoneLess y ys → NoneLess y (put_in_order cmp x ys)
  NoneLess-put x y [] h n = (h, tt)
  NoneLess-put x y (z ∷ ys) h n =
      elim (lt z x) as (λ b. NoneLess y (if b then z ∷ put_in_order cmp x ys else x ∷ z ∷ ys)) [
        | true ↦ (n.0, NoneLess-put x y ys h n.1)
        | false ↦ (h, n)
      ]

  Rises-put : (x : X) (ys : List X) → Rises ys → Rises (put_in_order cmp x ys)
  Rises-put x [] r = (tt, tt)
  Rises-put x (y ∷ ys) r =
      elim (lt y x) as (λ b. lt y x ≡ b → Rises (if b then y ∷ put_in_order cmp x ys else x ∷ y ∷ ys)) [
        | true ↦ λ h. (NoneLess-put x y ys (order.one_way y x h) r.0, Rises-put x ys r.1)
        | false ↦ λ h. ((h, NoneLess-trans x y ys h r.0), r)
      ] refl

  Rises-in_order : (xs : List X) → Rises (in_order cmp xs)
  Rises-in_order [] = tt
  Rises-in_order (x ∷ xs) = Rises-put x (in_order cmp xs) (Rises-in_order xs)

  count-put : (q x : X) (ys : List X) → count q (put_in_order cmp x ys) ≡ count q (x ∷ ys)
  count-put q x [] = refl
  count-put q x (y ∷ ys) =
      elim (lt y x) as (λ b. count q (if b then y ∷ put_in_order cmp x ys else x ∷ y ∷ ys) ≡ count q (x ∷ y ∷ ys)) [
        | true ↦ omega (arith, count-put q x ys)
        | false ↦ refl
      ]

  count-in_order : (xs : List X) → HasSameCounts (in_order cmp xs) xs
  count-in_order [] q = refl
  count-in_order (x ∷ xs) q = count-put q x (in_order cmp xs) ∙ ap (λ n. tick q x + n) (count-in_order xs q)

  equal_from_test : (r : Ordering) → is_eq r ≡ true → r ≡ Equal
  equal_from_test Less h = absurd (cc)
  equal_from_test Equal h = refl
  equal_from_test Greater h = absurd (cc)

  equal_from_itself : (r : Ordering) → r ≡ ordering_reverse r → r ≡ Equal
  equal_from_itself Less h = absurd (cc)
  equal_from_itself Equal h = refl
  equal_from_itself Greater h = absurd (cc)

  itself : (x : X) → cmp x x ≡ Equal
  itself x = equal_from_itself (cmp x x) (o.antisymm x x)

  not_below_itself : (x : X) → lt x x ≡ false
  not_below_itself x = ap is_lt (itself x)

  count-itself : (x : X) (xs : List X) → 1 ≤ count x (x ∷ xs)
  count-itself x xs = rw (itself x) (omega arith)

  -- what is in a list whose items are not less than x, is not less than x
  not_less : (x q : X) (ys : List X) → NoneLess x ys → 1 ≤ count q ys → lt q x ≡ false
  not_less x q [] n h = absurd (omega arith)
  not_less x q (y ∷ ys) n h =
      elim (is_eq (cmp q y)) as (λ b. is_eq (cmp q y) ≡ b → 1 ≤ cond b 1 0 + count q ys → lt q x ≡ false) [
        | true ↦ λ e _. rw (exact q y (equal_from_test (cmp q y) e)) n.0
        | false ↦ λ _ h. not_less x q ys n.1 (omega arith)
      ] refl h

  -- two ascending lists of the same items are one
  only_one : (xs ys : List X) → Rises xs → Rises ys → HasSameCounts xs ys → xs ≡ ys
  only_one [] [] r s same = refl
  only_one [] (y ∷ ys) r s same = absurd (omega (arith, same y, count-itself y ys))
  only_one (x ∷ xs) [] r s same = absurd (omega (arith, same x, count-itself x xs))
  only_one (x ∷ xs) (y ∷ ys) r s same =
      let x_there : 1 ≤ count x (y ∷ ys) = omega (arith, same x, count-itself x xs) in
      let y_there : 1 ≤ count y (x ∷ xs) = omega (arith, same y, count-itself y ys) in
      let here : x ≡ y = same_item x y (not_less y x (y ∷ ys) (not_below_itself y, s.0) x_there) (not_less x y (x ∷ xs) (not_below_itself x, r.0) y_there) in
      let rest : HasSameCounts xs ys = λ q. omega (arith, same q, ap (tick q) here) in
      let others : xs ≡ ys = only_one xs ys r.1 s.1 rest in
      cc

  NoneLess-from_each : (x : X) (xs : List X) → ((j : ℕ) (d : X) → j < length xs → lt (get_or xs j d) x ≡ false) → NoneLess x xs
  NoneLess-from_each x [] h = tt
  NoneLess-from_each x (y ∷ ys) h = (h 0 y (omega arith), NoneLess-from_each x ys (λ j d below. h (suc j) d (omega arith)))

  Rises-from_sorted : (xs : List X) → IsSorted cmp xs → Rises xs
  Rises-from_sorted [] sorted = tt
  Rises-from_sorted (x ∷ xs) sorted = (
    NoneLess-from_each x xs (λ j d below. sorted_far lt order (x ∷ xs) sorted 0 (suc j) d (omega arith) (omega arith)),
    Rises-from_sorted xs (λ k d low high. let h = sorted (suc k) d (omega arith) (omega arith) in rw add-one (rw add-one at h)),
  )

  -- a sorted permutation is the list in order
  pub in_order-is : (xs ys : List X) → IsPermutation xs ys → IsSorted cmp ys → ys ≡ in_order cmp xs
  in_order-is xs ys moved sorted =
      only_one ys (in_order cmp xs) (Rises-from_sorted ys sorted) (Rises-in_order xs)
      (λ q. sym (count-sum q ys) ∙ sum_by-IsPermutation (tick q) xs ys moved ∙ count-sum q xs ∙ sym (count-in_order xs q))

  -- an item at its place among others is the first of them in another order
  IsPermutation-put : (x : X) (ys : List X) → IsPermutation (x ∷ ys) (put_in_order cmp x ys)
  IsPermutation-put x [] = IsPermutation-refl (x ∷ [])
  IsPermutation-put x (y ∷ ys) =
      elim (lt y x) as (λ b. IsPermutation (x ∷ y ∷ ys) (if b then y ∷ put_in_order cmp x ys else x ∷ y ∷ ys)) [
        | true ↦ IsPermutation-trans (x ∷ y ∷ ys) (y ∷ x ∷ ys) (y ∷ put_in_order cmp x ys) (IsPermutation-middle (x ∷ []) y ys) (IsPermutation-cons y (x ∷ ys) (put_in_order cmp x ys) (IsPermutation-put x ys))
        | false ↦ IsPermutation-refl (x ∷ y ∷ ys)
      ]

  -- so the list in order has the items in another order
  IsPermutation-in_order : (xs : List X) → IsPermutation xs (in_order cmp xs)
  IsPermutation-in_order [] = IsPermutation-refl []
  IsPermutation-in_order (x ∷ xs) =
      IsPermutation-trans (x ∷ xs) (x ∷ in_order cmp xs) (put_in_order cmp x (in_order cmp xs)) (IsPermutation-cons x xs (in_order cmp xs) (IsPermutation-in_order xs)) (IsPermutation-put x (in_order cmp xs))

  -- a list that rises is sorted
  IsSorted-from_rises : (xs : List X) → Rises xs → IsSorted cmp xs
  IsSorted-from_rises xs rises k d low high = each xs rises k d high where
    each : (xs : List X) → Rises xs → (k : ℕ) (d : X) → k + 1 < length xs → lt (get_or xs (k + 1) d) (get_or xs k d) ≡ false
    each [] r k d high = absurd (omega arith)
    each (x ∷ []) r k d high = absurd (omega arith)
    each (x ∷ y ∷ ys) r zero d high = r.0.0
    each (x ∷ y ∷ ys) r (suc k) d high = let h = each (y ∷ ys) r.1 k d (omega arith) in rw add-one (rw add-one at h)

  -- the list in order is the sorted list of the items
  pub in_order-exactly : (xs ys : List X) → (ys ≡ in_order cmp xs) ↔ (IsPermutation xs ys × IsSorted cmp ys)
  in_order-exactly xs ys = (
    λ is. (subst (IsPermutation xs) (sym is) (IsPermutation-in_order xs), subst (IsSorted cmp) (sym is) (IsSorted-from_rises (in_order cmp xs) (Rises-in_order xs))),
    λ h. in_order-is xs ys h.0 h.1,
  )

  -- a sorted permutation, without what stands beside an equal item, is the set of the list
  pub set_of-dedup : (same : X → X → Bool) → ((x y : X) → same x y ≡ eq_by_cmp cmp x y) → (xs ys : List X) → IsPermutation xs ys → IsSorted cmp ys → dedup same ys ≡ set_of cmp xs
  set_of-dedup same ties xs ys moved sorted =
      let back = IsPermutation-sym xs ys moved in
      let equals : IsEquivalence same = subst IsEquivalence (λ i x y. sym (ties x y) i) (eq_by_cmp_equiv o) in
      one_set cmp o exact xs (dedup same ys) (record {
        ascends = IsStrictlySortedBy-dedup o ties ys sorted;
        same = λ x. (
          λ at. Contains-permutation ys xs x back (Contains-from_dedup same ys x at),
          λ at. Contains-dedup equals (λ a b h. exact a b (equal_from_test (cmp a b) (sym (ties a b) ∙ h))) ys x (Contains-permutation xs ys x moved at),
        );
      })
