-- The members of a row are those of the bound columns, in ascending order of their names.
use Rattle.std.proofs.Common.{◌≡◌, ℕ, zero, suc, ◌<◌, true, false, if◌then◌else◌, List, [], ◌∷◌, length, get_or, Option, None, Some, IsPermutation, refl, arith}
use Rattle.std.specs.Prelude.{AllPairs, slice_index_or}
use Rattle.std.specs.Option.{option_map}
use Rattle.std.specs.List.{filter_map, cons_option}
use Rattle.std.specs.Ordering.{nat_cmp, ordering_then, is_lt}
use Rattle.std.specs.declared.cmp.Ordering.{Ordering}
use Rattle.std.specs.declared.cmp.Ordering.TheVariants.{Less, Equal, Greater}
use Rattle.std.specs.Cmp.Lexicographic.{slice_cmp}
use Rattle.std.proofs.lemmas.List.Sorted.{ranks_by, sorted_far, IsPermutation-refl, IsPermutation-trans, IsPermutation-cons, IsPermutation-middle}
use Rattle.alg_model.specs.Row.{Row}
use Rattle.alg_model.specs.Answers.{put_in_order, in_order}
use Rattle.alg_model.proofs.InOrder.{in_order-exactly}
use Rattle.result_write.specs.Json.{Member}
use Rattle.result_write.specs.JsonResult.{column_cmp, columns_of, columns_by_name, bound_member, bound_members, row_members, IsNotBefore, cell_json}
use Rattle.result_write.proofs.ColumnLaws.{column_cmp-total, column_cmp-exact}

module _ {X Y : Type 0} (cmp : X → X → Ordering) (f : X → Option Y) where
  -- one more in front
  both_more : (o : Option Y) (xs ys : List Y) → IsPermutation xs ys → IsPermutation (cons_option o xs) (cons_option o ys)
  both_more None xs ys moved = moved
  both_more (Some y) xs ys moved = IsPermutation-cons y xs ys moved

  -- two in the other order
  other_order : (o p : Option Y) (ys : List Y) → IsPermutation (cons_option o (cons_option p ys)) (cons_option p (cons_option o ys))
  other_order None p ys = IsPermutation-refl (cons_option p ys)
  other_order (Some x) None ys = IsPermutation-refl (x ∷ ys)
  other_order (Some x) (Some y) ys = IsPermutation-middle (x ∷ []) y ys

  -- an item at its place gives what it gives in front
  put_moves : (x : X) (xs : List X) → IsPermutation (filter_map f (x ∷ xs)) (filter_map f (put_in_order cmp x xs))
  put_moves x [] = IsPermutation-refl (filter_map f (x ∷ []))
  put_moves x (y ∷ ys) =
      elim (is_lt (cmp y x)) as (λ b. IsPermutation (filter_map f (x ∷ y ∷ ys)) (filter_map f (if b then y ∷ put_in_order cmp x ys else x ∷ y ∷ ys))) [
        | true ↦ IsPermutation-trans (filter_map f (x ∷ y ∷ ys)) (filter_map f (y ∷ x ∷ ys)) (filter_map f (y ∷ put_in_order cmp x ys))
            (other_order (f x) (f y) (filter_map f ys)) (both_more (f y) (filter_map f (x ∷ ys)) (filter_map f (put_in_order cmp x ys)) (put_moves x ys))
        | false ↦ IsPermutation-refl (filter_map f (x ∷ y ∷ ys))
      ]

  -- so the items in order give what they give
  in_order_moves : (xs : List X) → IsPermutation (filter_map f xs) (filter_map f (in_order cmp xs))
  in_order_moves [] = IsPermutation-refl []
  in_order_moves (x ∷ xs) = IsPermutation-trans (filter_map f (x ∷ xs)) (filter_map f (x ∷ in_order cmp xs)) (filter_map f (put_in_order cmp x (in_order cmp xs)))
      (both_more (f x) (filter_map f xs) (filter_map f (in_order cmp xs)) (in_order_moves xs)) (put_moves x (in_order cmp xs))

pub members-all : (names : List (List ℕ)) (row : Row (List ℕ)) → IsPermutation (bound_members names row) (row_members names row)
unfolding columns_by_name
members-all names row = in_order_moves column_cmp (bound_member row) (columns_of names)

-- no name in a list of columns or members comes before this one
abbrev NoneBefore : {A : Type 0} → List ℕ → List (List ℕ × A) → Type 0
NoneBefore name [] = Unit {0}
NoneBefore name (x ∷ xs) = (is_lt (slice_cmp nat_cmp x.0 name) ≡ false) × NoneBefore name xs

abbrev Ascends : {A : Type 0} → List (List ℕ × A) → Type 0
Ascends [] = Unit {0}
Ascends (x ∷ xs) = NoneBefore x.0 xs × Ascends xs

-- what does not come before by name and place does not by name
by_name : (r s : Ordering) → is_lt (ordering_then r s) ≡ false → is_lt r ≡ false
by_name Less s h = h
by_name Equal s h = refl
by_name Greater s h = refl

none_before : (c : List ℕ × ℕ) (cs : List (List ℕ × ℕ)) → ((j : ℕ) (d : List ℕ × ℕ) → j < length cs → is_lt (column_cmp (get_or cs j d) c) ≡ false) → NoneBefore c.0 cs
none_before c [] h = tt
none_before c (x ∷ xs) h = (by_name _ _ (h 0 x (omega arith)), none_before c xs (λ j d below. h (suc j) d (omega arith)))

ascends : (cs : List (List ℕ × ℕ)) → ((i j : ℕ) (d : List ℕ × ℕ) → i < j → j < length cs → is_lt (column_cmp (get_or cs j d) (get_or cs i d)) ≡ false) → Ascends cs
ascends [] h = tt
ascends (x ∷ xs) h = (none_before x xs (λ j d below. h 0 (suc j) d (omega arith) (omega arith)), ascends xs (λ i j d more below. h (suc i) (suc j) d (omega arith) (omega arith)))

-- the columns ascend
columns_ascend : (names : List (List ℕ)) → Ascends (columns_by_name names)
unfolding columns_by_name
columns_ascend names =
    let sorted = ((in_order-exactly column_cmp column_cmp-total column_cmp-exact (columns_of names) (in_order column_cmp (columns_of names))).0 refl).1 in
    ascends (in_order column_cmp (columns_of names)) (λ i j d more below. sorted_far (λ c d. is_lt (column_cmp c d)) (ranks_by column_cmp-total (λ c. c)) (in_order column_cmp (columns_of names)) sorted i j d (omega arith) below)

-- the members of some of them are no earlier
more_none_before : (name : List ℕ) (c : List ℕ × ℕ) (cell : Option (List ℕ)) (ms : List Member) → is_lt (slice_cmp nat_cmp c.0 name) ≡ false → NoneBefore name ms → NoneBefore name (cons_option (option_map (λ text. (c.0, cell_json text)) cell) ms)
more_none_before name c None ms here others = others
more_none_before name c (Some text) ms here others = (here, others)

members_none_before : (row : Row (List ℕ)) (name : List ℕ) (cs : List (List ℕ × ℕ)) → NoneBefore name cs → NoneBefore name (filter_map (bound_member row) cs)
members_none_before row name [] h = tt
members_none_before row name (c ∷ cs) h =
    more_none_before name c (slice_index_or row c.1 None) (filter_map (bound_member row) cs) h.0 (members_none_before row name cs h.1)

more_ascends : (c : List ℕ × ℕ) (cell : Option (List ℕ)) (ms : List Member) → NoneBefore c.0 ms → Ascends ms → Ascends (cons_option (option_map (λ text. (c.0, cell_json text)) cell) ms)
more_ascends c None ms none others = others
more_ascends c (Some text) ms none others = (none, others)

members_ascend : (row : Row (List ℕ)) (cs : List (List ℕ × ℕ)) → Ascends cs → Ascends (filter_map (bound_member row) cs)
members_ascend row [] h = tt
members_ascend row (c ∷ cs) h =
    more_ascends c (slice_index_or row c.1 None) (filter_map (bound_member row) cs) (members_none_before row c.0 cs h.0) (members_ascend row cs h.1)

-- so each pair does
pairs : (ms : List Member) → Ascends ms → AllPairs IsNotBefore ms
pairs ms h i j d more below = at ms h i j d more below where
  later : (name : List ℕ) (ms : List Member) → NoneBefore name ms → (j : ℕ) (d : Member) → j < length ms → is_lt (slice_cmp nat_cmp (get_or ms j d).0 name) ≡ false
  later name [] h j d below = absurd (omega arith)
  later name (m ∷ ms) h zero d below = h.0
  later name (m ∷ ms) h (suc j) d below = later name ms h.1 j d (omega arith)

  at : (ms : List Member) → Ascends ms → (i j : ℕ) (d : Member) → i < j → j < length ms → is_lt (slice_cmp nat_cmp (get_or ms j d).0 (get_or ms i d).0) ≡ false
  at [] h i j d more below = absurd (omega arith)
  at (m ∷ ms) h i zero d more below = absurd (omega arith)
  at (m ∷ ms) h zero (suc j) d more below = later m.0 ms h.0 j d (omega arith)
  at (m ∷ ms) h (suc i) (suc j) d more below = at ms h.1 i j d (omega arith) (omega arith)

pub members-ascend : (names : List (List ℕ)) (row : Row (List ℕ)) → AllPairs IsNotBefore (row_members names row)
members-ascend names row = pairs (row_members names row) (members_ascend row (columns_by_name names) (columns_ascend names))
