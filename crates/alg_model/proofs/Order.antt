-- The order of lists does not matter to the bags of rows that come of them.
use Rattle.std.proofs.Common.{ℕ, zero, suc, ◌<◌, Bool, List, [], ◌∷◌, ◌++◌, fold, filter, flat_map, filter_map, length, get_or, set, swap, not, if◌then◌else◌, IsPermutation, Option, option_to_list, append_assoc, ap, subst, arith}
use Rattle.std.proofs.lemmas.List.Sorted.{IsPermutation-refl, IsPermutation-trans, IsPermutation-keeps, IsPermutation-append, IsPermutation-append_left, IsPermutation-append_right, IsPermutation-append_comm, list_any-IsPermutation}
use Rattle.std.proofs.lemmas.List.Elements.{filter_agree}
use Rattle.std.specs.List.{list_any}
use Rattle.alg_model.specs.declared.pattern.TriplePat.{TriplePat}
use Rattle.alg_model.specs.Row.{Row, unbound, are_compatible, merged, join, without_partner, left_join}
use Rattle.alg_model.specs.Pattern.{Algebra, Bgp, Join, LeftJoin}
use Rattle.alg_model.specs.Eval.{Interpretation, match_of, matches_of, eval}
use Rattle.alg_model.proofs.Lists.{filter_map_as_flat_map, filter_as_flat_map}

module _ {X Y : Type 0} (f : X → List Y) where
  -- f gives the same bag of both lists
  abbrev Alike : List X → List X → Type 0
  Alike xs ys = IsPermutation (flat_map f xs) (flat_map f ys)

  -- behind the same first item
  alike_below : (x : X) (xs ys : List X) → Alike xs ys → Alike (x ∷ xs) (x ∷ ys)
  alike_below x xs ys h = IsPermutation-append_right (f x) (flat_map f xs) (flat_map f ys) h

  -- the first two in each other's place
  alike_turned : (x y : X) (xs : List X) → Alike (x ∷ y ∷ xs) (y ∷ x ∷ xs)
  alike_turned x y xs =
      rw (← append_assoc (f x), ← append_assoc (f y)) (IsPermutation-append_left (flat_map f xs) (f x ++ f y) (f y ++ f x) (IsPermutation-append_comm (f x) (f y)))

  -- the first and one after it
  alike_exchanged : (x : X) (xs : List X) (j : ℕ) (d : X) → j < length xs → Alike (x ∷ xs) (get_or xs j d ∷ set xs j x)
  alike_exchanged x [] j d within = absurd (omega arith)
  alike_exchanged x (y ∷ xs) zero d within = alike_turned x y xs
  alike_exchanged x (y ∷ xs) (suc j) d within =
      let z = get_or xs j d in
      IsPermutation-trans (flat_map f (x ∷ y ∷ xs)) (flat_map f (y ∷ x ∷ xs)) (flat_map f (z ∷ y ∷ set xs j x)) (alike_turned x y xs)
      (IsPermutation-trans (flat_map f (y ∷ x ∷ xs)) (flat_map f (y ∷ z ∷ set xs j x)) (flat_map f (z ∷ y ∷ set xs j x))
      (alike_below y (x ∷ xs) (z ∷ set xs j x) (alike_exchanged x xs j d (omega arith))) (alike_turned y z (set xs j x)))

  -- any two in each other's place
  alike_swapped : (xs : List X) (i j : ℕ) (d : X) → i < length xs → j < length xs → Alike xs (set (set xs i (get_or xs j d)) j (get_or xs i d))
  alike_swapped [] i j d p q = absurd (omega arith)
  alike_swapped (x ∷ xs) zero zero d p q = IsPermutation-refl (flat_map f (x ∷ xs))
  alike_swapped (x ∷ xs) zero (suc j) d p q = alike_exchanged x xs j d (omega arith)
  alike_swapped (x ∷ xs) (suc i) zero d p q = alike_exchanged x xs i d (omega arith)
  alike_swapped (x ∷ xs) (suc i) (suc j) d p q =
      alike_below x xs (set (set xs i (get_or xs j d)) j (get_or xs i d)) (alike_swapped xs i j d (omega arith) (omega arith))

  -- the same, in the word of std
  alike_swap : (xs : List X) (i j : ℕ) → i < length xs → j < length xs → Alike xs (swap xs i j)
  alike_swap [] i j p q = absurd (omega arith)
  alike_swap (x ∷ xs) i j p q = alike_swapped (x ∷ xs) i j x p q

  -- the order of the items does not matter to the bag that a `flat_map` gives
  pub IsPermutation-flat_map : (xs ys : List X) → IsPermutation xs ys → IsPermutation (flat_map f xs) (flat_map f ys)
  IsPermutation-flat_map xs =
      IsPermutation-keeps xs (Alike xs) (IsPermutation-refl (flat_map f xs))
      (λ l i j p q h. IsPermutation-trans (flat_map f xs) (flat_map f l) (flat_map f (swap l i j)) h (alike_swap l i j p q))

-- nor does the order of what is given of each item
pub IsPermutation-flat_map_each : {X Y : Type 0} (f g : X → List Y) → ((x : X) → IsPermutation (f x) (g x)) → (xs : List X) → IsPermutation (flat_map f xs) (flat_map g xs)
IsPermutation-flat_map_each f g each [] = IsPermutation-refl []
IsPermutation-flat_map_each f g each (x ∷ xs) = IsPermutation-append (f x) (g x) (flat_map f xs) (flat_map g xs) (each x) (IsPermutation-flat_map_each f g each xs)

-- the same of a `filter_map`
pub IsPermutation-filter_map : {X Y : Type 0} (f : X → Option Y) (xs ys : List X) → IsPermutation xs ys → IsPermutation (filter_map f xs) (filter_map f ys)
IsPermutation-filter_map f xs ys h =
    rw (filter_map_as_flat_map f xs, filter_map_as_flat_map f ys) (IsPermutation-flat_map (λ x. option_to_list (f x)) xs ys h)

-- and of a filter
pub IsPermutation-filter : {X : Type 0} (p : X → Bool) (xs ys : List X) → IsPermutation xs ys → IsPermutation (filter p xs) (filter p ys)
IsPermutation-filter p xs ys h =
    rw (filter_as_flat_map p xs, filter_as_flat_map p ys) (IsPermutation-flat_map (λ x. if p x then x ∷ [] else []) xs ys h)

-- ---- bags of rows

module _ {V : Type 0} (test : V → V → Bool) (left others right rights : List (Row V)) (hl : IsPermutation left others) (hr : IsPermutation right rights) where
  -- the Join of the same bags is the same bag
  pub join-IsPermutation : IsPermutation (join test left right) (join test others rights)
  join-IsPermutation =
      IsPermutation-trans (join test left right) (join test others right) (join test others rights)
      (IsPermutation-flat_map (λ r. filter_map (merged test r) right) left others hl)
      (IsPermutation-flat_map_each (λ r. filter_map (merged test r) right) (λ r. filter_map (merged test r) rights) (λ r. IsPermutation-filter_map (merged test r) right rights hr) others)

  -- and so are the rows without a partner
  without_partner-IsPermutation : IsPermutation (without_partner test left right) (without_partner test others rights)
  without_partner-IsPermutation =
      let alone = λ (rows : List (Row V)) (r : Row V). not (list_any (are_compatible test r) rows) in
      let same = filter_agree (alone right) (alone rights) (λ r. ap not (list_any-IsPermutation (are_compatible test r) right rights hr)) others in
      subst (IsPermutation (without_partner test left right)) same (IsPermutation-filter (alone right) left others hl)

  -- and the LeftJoin
  pub left_join-IsPermutation : IsPermutation (left_join test left right) (left_join test others rights)
  left_join-IsPermutation =
      IsPermutation-append (join test left right) (join test others rights) (without_partner test left right) (without_partner test others rights) join-IsPermutation without_partner-IsPermutation

-- the order of the triples does not matter to the bag of rows
module _ {V X : Type 0} (interpretation : Interpretation V X) (n : ℕ) (triples others : List X) (same : IsPermutation triples others) where
  -- the rows so far, joined with the matches of one more triple pattern
  abbrev step : List X → List (Row V) → TriplePat → List (Row V)
  step triples rows pattern = join interpretation.same rows (matches_of interpretation n pattern triples)

  -- a list of triple patterns, from the same bag of rows
  fold-IsPermutation : (patterns : List TriplePat) (rows rows' : List (Row V)) → IsPermutation rows rows' → IsPermutation (fold (step triples) rows patterns) (fold (step others) rows' patterns)
  fold-IsPermutation [] rows rows' h = h
  fold-IsPermutation (pattern ∷ patterns) rows rows' h =
      fold-IsPermutation patterns (step triples rows pattern) (step others rows' pattern)
      (join-IsPermutation interpretation.same rows rows' (matches_of interpretation n pattern triples) (matches_of interpretation n pattern others) h (IsPermutation-filter_map (match_of interpretation n pattern) triples others same))

  -- a pattern gives the same bag of rows over the triples in any order
  pub eval-IsPermutation : (pattern : Algebra) → IsPermutation (eval interpretation n pattern triples) (eval interpretation n pattern others)
  eval-IsPermutation (Bgp patterns) = fold-IsPermutation patterns (unbound V n ∷ []) (unbound V n ∷ []) (IsPermutation-refl (unbound V n ∷ []))
  eval-IsPermutation (Join left right) =
      join-IsPermutation interpretation.same (eval interpretation n left triples) (eval interpretation n left others) (eval interpretation n right triples) (eval interpretation n right others) (eval-IsPermutation left) (eval-IsPermutation right)
  eval-IsPermutation (LeftJoin left right) =
      left_join-IsPermutation interpretation.same (eval interpretation n left triples) (eval interpretation n left others) (eval interpretation n right triples) (eval interpretation n right others) (eval-IsPermutation left) (eval-IsPermutation right)
