-- A set that is kept as a list is determined by its items, and the items put one by one at their places are such
-- a list. The order is total, and only equal items tie.
use Rattle.std.proofs.Common.{◌≡◌, ◌≢◌, ◌↔◌, ◌⊎◌, inl, inr, List, [], ◌∷◌, fold, AllPairs, Contains, get_or, refl, sym, ◌∙◌, ap, subst, arith}
use Rattle.std.proofs.lemmas.Cmp.{tied_itself}
use Rattle.std.proofs.lemmas.List.Elements.{Contains-get_or}
use Rattle.std.proofs.lemmas.List.Kept.{AllPairs-cons}
use Rattle.std.proofs.lemmas.Map.Lookups.{CmpEqualImpliesEq}
use Rattle.std.specs.BTreeSet.{insert_key}
use Rattle.std.specs.Cmp.{IsTotalOrder}
use Rattle.std.specs.List.{AllByRecursion}
use Rattle.std.specs.List.Sorted.{IsStrictlySortedBy}
use Rattle.std.specs.Ordering.{match_ordering, ordering_reverse}
use Rattle.std.specs.declared.cmp.Ordering.{Ordering}
use Rattle.std.specs.declared.cmp.Ordering.TheVariants.{Less, Equal, Greater}
use Rattle.bm_term.specs.SetOf.{IsSetOf, set_of}
use Rattle.bm_term.proofs.Elements.{Contains-head, Contains-tail, Contains-cons_cases, Contains-nil}

module _ {X : Type 0} (cmp : X → X → Ordering) (o : IsTotalOrder cmp) where
  -- no item is less than itself
  not_less_itself : (x : X) → cmp x x ≢ Less
  not_less_itself x h = let e = tied_itself o x in cc

  -- an item that is greater than another is one that the other is less than
  less_from_greater : (x y : X) → cmp x y ≡ Greater → cmp y x ≡ Less
  less_from_greater x y h = o.antisymm y x ∙ ap ordering_reverse h

  -- x is less than each item
  abbrev IsBelow : X → List X → Type 0
  IsBelow x xs = AllByRecursion (λ y. cmp x y ≡ Less) xs

  -- so it is less than one that is there
  below-Contains : (x : X) (xs : List X) (y : X) → IsBelow x xs → Contains xs y → cmp x y ≡ Less
  below-Contains x [] y below at = absurd (Contains-nil y at)
  below-Contains x (z ∷ xs) y below at = elim (Contains-cons_cases z xs y at) as (λ _. cmp x y ≡ Less) [
    | inl e ↦ subst (λ y. cmp x y ≡ Less) e below.0
    | inr later ↦ below-Contains x xs y below.1 later
  ]

  -- what is less than an item is less than all that it is less than
  IsBelow-trans : (x y : X) (xs : List X) → cmp x y ≡ Less → IsBelow y xs → IsBelow x xs
  IsBelow-trans x y [] h below = tt
  IsBelow-trans x y (z ∷ xs) h below = (o.trans x y z h below.0, IsBelow-trans x y xs h below.1)

  -- x is less than each item of a list and one more
  IsBelow-insert : (x k : X) (xs : List X) → cmp x k ≡ Less → IsBelow x xs → IsBelow x (insert_key cmp xs k)
  IsBelow-insert x k [] h below = (h, tt)
  IsBelow-insert x k (y ∷ xs) h below = elim (cmp k y) as (λ r. IsBelow x (match_ordering r (k ∷ y ∷ xs) (y ∷ xs) (y ∷ insert_key cmp xs k))) [
    | Less ↦ (h, below)
    | Equal ↦ below
    | Greater ↦ (below.0, IsBelow-insert x k xs h below.1)
  ]

  -- a list that ascends does so with one more item at its place
  ascends-insert : (xs : List X) (k : X) → IsStrictlySortedBy cmp xs → IsStrictlySortedBy cmp (insert_key cmp xs k)
  unfolding IsStrictlySortedBy
  ascends-insert [] k h = (tt, tt)
  ascends-insert (x ∷ xs) k h =
      elim (cmp k x) as (λ r. cmp k x ≡ r → IsStrictlySortedBy cmp (match_ordering r (k ∷ x ∷ xs) (x ∷ xs) (x ∷ insert_key cmp xs k))) [
        | Less ↦ λ less. ((less, IsBelow-trans k x xs less h.0), h)
        | Equal ↦ λ _. h
        | Greater ↦ λ more. (IsBelow-insert x k xs (less_from_greater k x more) h.0, ascends-insert xs k h.1)
      ] refl

  -- and with a list of items
  ascends-fold : (items set : List X) → IsStrictlySortedBy cmp set → IsStrictlySortedBy cmp (fold (insert_key cmp) set items)
  ascends-fold [] set h = h
  ascends-fold (x ∷ items) set h = ascends-fold items (insert_key cmp set x) (ascends-insert set x h)

  -- in a list that ascends no item stands twice
  pub AllPairs-ascending : (xs : List X) → IsStrictlySortedBy cmp xs → AllPairs (λ x y. x ≢ y) xs
  unfolding IsStrictlySortedBy
  AllPairs-ascending [] h = λ i j d before low. absurd (omega arith)
  AllPairs-ascending (x ∷ xs) h = AllPairs-cons (λ x y. x ≢ y) x xs
      (λ k d low same. not_less_itself x (subst (λ z. cmp x z ≡ Less) (sym same) (below-Contains x xs (get_or xs k d) h.0 (Contains-get_or xs k d low))))
      (AllPairs-ascending xs h.1)

  -- lists that ascend and have the same items are one
  same_items : (xs ys : List X) → IsStrictlySortedBy cmp xs → IsStrictlySortedBy cmp ys → ((x : X) → Contains xs x ↔ Contains ys x) → xs ≡ ys
  unfolding IsStrictlySortedBy
  same_items [] [] hx hy same = refl
  same_items [] (y ∷ ys) hx hy same = absurd (Contains-nil y ((same y).1 (Contains-head y ys)))
  same_items (x ∷ xs) [] hx hy same = absurd (Contains-nil x ((same x).0 (Contains-head x xs)))
  same_items (x ∷ xs) (y ∷ ys) hx hy same =
      let first : x ≡ y = elim (Contains-cons_cases y ys x ((same x).0 (Contains-head x xs))) as (λ _. x ≡ y) [
        | inl e ↦ sym e
        | inr x_later ↦ elim (Contains-cons_cases x xs y ((same y).1 (Contains-head y ys))) as (λ _. x ≡ y) [
          | inl e ↦ e
          | inr y_later ↦ absurd (not_less_itself x (o.trans x y x (below-Contains x xs y hx.0 y_later) (below-Contains y ys x hy.0 x_later)))
        ]
      ] in
      let rest : (z : X) → Contains xs z ↔ Contains ys z = λ z. (
        λ at. elim (Contains-cons_cases y ys z ((same z).0 (Contains-tail x xs z at))) as (λ _. Contains ys z) [
          | inl e ↦ absurd (not_less_itself x (subst (λ w. cmp x w ≡ Less) (sym (first ∙ e)) (below-Contains x xs z hx.0 at)))
          | inr later ↦ later
        ],
        λ at. elim (Contains-cons_cases x xs z ((same z).1 (Contains-tail y ys z at))) as (λ _. Contains xs z) [
          | inl e ↦ absurd (not_less_itself y (subst (λ w. cmp y w ≡ Less) (sym (sym first ∙ e)) (below-Contains y ys z hy.0 at)))
          | inr later ↦ later
        ],
      ) in
      let others : xs ≡ ys = same_items xs ys hx.1 hy.1 rest in
      cc

  module _ (exact : CmpEqualImpliesEq cmp) where
    -- a list with one more item has that item, and those that it had
    insert-there : (xs : List X) (k : X) → Contains (insert_key cmp xs k) k
    insert-there [] k = Contains-head k []
    insert-there (x ∷ xs) k =
        elim (cmp k x) as (λ r. cmp k x ≡ r → Contains (match_ordering r (k ∷ x ∷ xs) (x ∷ xs) (x ∷ insert_key cmp xs k)) k) [
          | Less ↦ λ _. Contains-head k (x ∷ xs)
          | Equal ↦ λ tie. subst (Contains (x ∷ xs)) (sym (exact k x tie)) (Contains-head x xs)
          | Greater ↦ λ _. Contains-tail x (insert_key cmp xs k) k (insert-there xs k)
        ] refl

    insert-keeps : (xs : List X) (k y : X) → Contains xs y → Contains (insert_key cmp xs k) y
    insert-keeps [] k y at = absurd (Contains-nil y at)
    insert-keeps (x ∷ xs) k y at =
        elim (cmp k x) as (λ r. Contains (match_ordering r (k ∷ x ∷ xs) (x ∷ xs) (x ∷ insert_key cmp xs k)) y) [
          | Less ↦ Contains-tail k (x ∷ xs) y at
          | Equal ↦ at
          | Greater ↦ elim (Contains-cons_cases x xs y at) as (λ _. Contains (x ∷ insert_key cmp xs k) y) [
            | inl e ↦ subst (Contains (x ∷ insert_key cmp xs k)) e (Contains-head x (insert_key cmp xs k))
            | inr later ↦ Contains-tail x (insert_key cmp xs k) y (insert-keeps xs k y later)
          ]
        ]

    -- and no other
    insert-cases : (xs : List X) (k y : X) → Contains (insert_key cmp xs k) y → (k ≡ y) ⊎ Contains xs y
    insert-cases [] k y at = Contains-cons_cases k [] y at
    insert-cases (x ∷ xs) k y at =
        elim (cmp k x) as (λ r. Contains (match_ordering r (k ∷ x ∷ xs) (x ∷ xs) (x ∷ insert_key cmp xs k)) y → (k ≡ y) ⊎ Contains (x ∷ xs) y) [
          | Less ↦ λ at. Contains-cons_cases k (x ∷ xs) y at
          | Equal ↦ λ at. inr at
          | Greater ↦ λ at. elim (Contains-cons_cases x (insert_key cmp xs k) y at) as (λ _. (k ≡ y) ⊎ Contains (x ∷ xs) y) [
            | inl e ↦ inr (subst (Contains (x ∷ xs)) e (Contains-head x xs))
            | inr later ↦ elim (insert-cases xs k y later) as (λ _. (k ≡ y) ⊎ Contains (x ∷ xs) y) [ inl e ↦ inl e | inr there ↦ inr (Contains-tail x xs y there) ]
          ]
        ] at

    -- a list with some more items has these, and those that it had
    fold-there : (items set : List X) (y : X) → Contains set y ⊎ Contains items y → Contains (fold (insert_key cmp) set items) y
    fold-there [] set y (inl at) = at
    fold-there [] set y (inr at) = absurd (Contains-nil y at)
    fold-there (x ∷ items) set y (inl at) = fold-there items (insert_key cmp set x) y (inl (insert-keeps set x y at))
    fold-there (x ∷ items) set y (inr at) = fold-there items (insert_key cmp set x) y
        (elim (Contains-cons_cases x items y at) as (λ _. Contains (insert_key cmp set x) y ⊎ Contains items y) [
          | inl e ↦ inl (subst (Contains (insert_key cmp set x)) e (insert-there set x))
          | inr later ↦ inr later
        ])

    -- and no other
    fold-cases : (items set : List X) (y : X) → Contains (fold (insert_key cmp) set items) y → Contains set y ⊎ Contains items y
    fold-cases [] set y at = inl at
    fold-cases (x ∷ items) set y at = elim (fold-cases items (insert_key cmp set x) y at) as (λ _. Contains set y ⊎ Contains (x ∷ items) y) [
      | inl there ↦ elim (insert-cases set x y there) as (λ _. Contains set y ⊎ Contains (x ∷ items) y) [
        | inl e ↦ inr (subst (Contains (x ∷ items)) e (Contains-head x items))
        | inr before ↦ inl before
      ]
      | inr later ↦ inr (Contains-tail x items y later)
    ]

    -- the set of a list is its set
    set_of-is : (items : List X) → IsSetOf cmp items (set_of cmp items)
    unfolding IsStrictlySortedBy
    set_of-is items = record {
      ascends = ascends-fold items [] tt;
      same = λ y. (
        λ at. elim (fold-cases items [] y at) as (λ _. Contains items y) [ inl none ↦ absurd (Contains-nil y none) | inr there ↦ there ],
        λ at. fold-there items [] y (inr at),
      );
    }

    -- and each list has one set
    pub one_set : (items set : List X) → IsSetOf cmp items set → set ≡ set_of cmp items
    one_set items set is =
        let made = set_of-is items in
        same_items set (set_of cmp items) is.ascends made.ascends (λ y. (λ at. (made.same y).1 ((is.same y).0 at), λ at. (is.same y).1 ((made.same y).0 at)))

    -- both in one
    pub IsSetOf-set_of : (items set : List X) → IsSetOf cmp items set ↔ (set ≡ set_of cmp items)
    IsSetOf-set_of items set = (one_set items set, λ is. subst (IsSetOf cmp items) (sym is) (set_of-is items))
