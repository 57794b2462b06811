-- The rows without a mark are the best, where the marks are at the rows that another extends with more variables.
use Rattle.std.proofs.Common.{◌≡◌, ◌≢◌, ◌↔◌, ◌⊎◌, inl, inr, ℕ, zero, suc, ◌+◌, ◌<◌, ◌≤◌, Bool, true, false, List, [], ◌∷◌, ◌++◌, length, get_or, take, slice_get, map, replicate, Option, Some, None, All, Contains, AllPairs, refl, arith, sym, ◌∙◌, ap, subst, slice_index_or}
use Rattle.std.proofs.lemmas.List.{get_or-map, length-map, get_or_default, map-append, take_more}
use Rattle.std.proofs.lemmas.List.Elements.{All-contains, Contains-get_or}
use Rattle.std.proofs.lemmas.Option.{slice_get_within, get_or_from_slice_get}
use Rattle.std.specs.List.Sorted.{IsStrictlySortedBy}
use Rattle.bm_term.specs.SetOf.{IsSetOf, set_of}
use Rattle.bm_term.proofs.Sets.{AllPairs-ascending, IsSetOf-set_of}
use Rattle.alg_model.specs.Row.{Row, Extends, BindsMore}
use Rattle.pattern_tree.specs.BestRows.{IsExtended, AreBest}
use Rattle.pattern_tree.specs.FlatTable.{cell_of, row_of}
use Rattle.null_best.specs.steps.Cuts.{Improves}
use Rattle.null_best.specs.steps.Groups.{row_at}
use Rattle.null_best.specs.steps.Keys.{key_cmp, key_cmp-total}
use Rattle.null_best.specs.steps.Marks.{IsMarked, AddsMarks, IsImproved, unmarked}
use Rattle.null_best.proofs.Marking.{none-replicate, Stays, unmarked-source, Contains-unmarked, AllPairs-unmarked}
use Rattle.null_best.proofs.Orders.{key_cmp-exact}

-- different cells make different rows
cell_of-injective : (m n : ℕ) → cell_of m ≡ cell_of n → m ≡ n
cell_of-injective zero zero h = refl
cell_of-injective zero (suc n) h = absurd (cc)
cell_of-injective (suc m) zero h = absurd (cc)
cell_of-injective (suc m) (suc n) h = cc

row_of-injective : (xs ys : List ℕ) → row_of xs ≡ row_of ys → xs ≡ ys
row_of-injective [] [] h = refl
row_of-injective [] (y ∷ ys) h = absurd (cc)
row_of-injective (x ∷ xs) [] h = absurd (cc)
row_of-injective (x ∷ xs) (y ∷ ys) h =
    let head : cell_of x ≡ cell_of y = cc in
    let tail : row_of xs ≡ row_of ys = cc in
    let first : x ≡ y = cell_of-injective x y head in
    let others : xs ≡ ys = row_of-injective xs ys tail in
    cc

-- the row at a place of a list of rows
record IsRowAt (keys : List (List ℕ)) (row : Row ℕ) (k : ℕ) : Type 0 where
  within : k < length keys
  is : row_of (row_at keys k) ≡ row

place_of : (keys : List (List ℕ)) (row : Row ℕ) → Contains (map row_of keys) row → (k : ℕ) × IsRowAt keys row k
place_of keys row at =
    let lt : at.0 < length keys = omega (arith, at.1, length-map keys row_of) in
    (at.0, record { within = lt; is = sym (get_or-map row_of keys at.0 [] row lt) ∙ at.2 })

Contains-place : (keys : List (List ℕ)) (row : Row ℕ) (k : ℕ) → IsRowAt keys row k → Contains (map row_of keys) row
Contains-place keys row k at = (k, omega (arith, at.within, length-map keys row_of), get_or-map row_of keys k [] row at.within ∙ at.is)

-- rows that differ differ as rows of values
AllPairs-rows : (keys : List (List ℕ)) → AllPairs (λ x y. x ≢ y) keys → AllPairs (λ r s. r ≢ s) (map row_of keys)
AllPairs-rows keys all i j d before low same =
    let lt : j < length keys = omega (arith, low, length-map keys row_of) in
    let first = get_or-map row_of keys i [] d (omega (arith, before, lt)) in
    let second = get_or-map row_of keys j [] d lt in
    all i j [] before lt (row_of-injective (row_at keys i) (row_at keys j) (sym first ∙ same ∙ second))

module _ (keys : List (List ℕ)) (marks : List Bool) (ascends : IsStrictlySortedBy key_cmp keys) (adds : AddsMarks (IsImproved keys) (replicate (length keys) false) marks) (long : length marks ≡ length keys) where
  -- a row at a place is marked exactly where another row extends it
  extended-marked : (row : Row ℕ) (k : ℕ) → IsRowAt keys row k → IsMarked marks k → IsExtended (map row_of keys) row
  extended-marked row k at marked = elim ((adds.marked k).0 marked) [
    | inl none ↦ absurd (none-replicate (length keys) k none)
    | inr improved ↦ record {
      other = row_of (row_at keys improved.by);
      listed = Contains-place keys (row_of (row_at keys improved.by)) improved.by (record { within = improved.listed; is = refl });
      extends = subst (Extends (row_of (row_at keys improved.by))) at.is improved.improves.extends;
      more = subst (BindsMore (row_of (row_at keys improved.by))) at.is improved.improves.more;
    }
  ]

  marked-extended : (row : Row ℕ) (k : ℕ) → IsRowAt keys row k → IsExtended (map row_of keys) row → IsMarked marks k
  marked-extended row k at extended =
      let by = place_of keys extended.other extended.listed in
      let bigger : Extends (row_of (row_at keys by.0)) row = subst (λ r. Extends r row) (sym by.1.is) extended.extends in
      let further : BindsMore (row_of (row_at keys by.0)) row = subst (λ r. BindsMore r row) (sym by.1.is) extended.more in
      (adds.marked k).1 (inr (record {
        by = by.0;
        listed = by.1.within;
        exists = at.within;
        improves = record {
          extends = subst (Extends (row_of (row_at keys by.0))) (sym at.is) bigger;
          more = subst (BindsMore (row_of (row_at keys by.0))) (sym at.is) further;
        };
      }))

  forth : (row : Row ℕ) → Contains (map row_of (unmarked keys marks)) row → Contains (map row_of keys) row × ¬ IsExtended (map row_of keys) row
  forth row at =
      let from = place_of (unmarked keys marks) row at in
      let cells = row_at (unmarked keys marks) from.0 in
      let stays = unmarked-source keys marks cells long (from.0, from.1.within, get_or_default (unmarked keys marks) from.0 cells [] from.1.within) in
      let there : row_at keys stays.place ≡ cells = get_or_default keys stays.place [] cells stays.within ∙ stays.is in
      let is : IsRowAt keys row stays.place = record { within = stays.within; is = ap row_of there ∙ from.1.is } in
      (Contains-place keys row stays.place is, λ extended. stays.plain (marked-extended row stays.place is extended))

  back : (row : Row ℕ) → Contains (map row_of keys) row × ¬ IsExtended (map row_of keys) row → Contains (map row_of (unmarked keys marks)) row
  back row at =
      let from = place_of keys row at.0 in
      let cells = row_at keys from.0 in
      let stays : Contains (unmarked keys marks) cells =
      Contains-unmarked keys marks from.0 cells from.1.within (get_or_default keys from.0 cells [] from.1.within) (λ marked. at.1 (extended-marked row from.0 from.1 marked)) in
      Contains-place (unmarked keys marks) row stays.0 (record {
        within = stays.1;
        is = ap row_of (get_or_default (unmarked keys marks) stays.0 [] cells stays.1 ∙ stays.2) ∙ from.1.is;
      })

  pub best-unmarked : AreBest (map row_of keys) (map row_of (unmarked keys marks))
  best-unmarked = record {
    exactly = λ row. (forth row, back row);
    once = AllPairs-rows (unmarked keys marks) (AllPairs-unmarked (λ x y. x ≢ y) keys marks (AllPairs-ascending key_cmp key_cmp-total keys ascends));
  }

-- lists with the same rows have the same best rows
pub best-same : {V : Type 0} (xs ys best : List (Row V)) → ((row : Row V) → Contains xs row ↔ Contains ys row) → AreBest xs best → AreBest ys best
best-same {V} xs ys best same are = record {
  exactly = λ row. (
    λ at. let is = (are.exactly row).0 at in ((same row).0 is.0, λ extended. is.1 (moved row (λ r. (same r).1) extended)),
    λ at. (are.exactly row).1 ((same row).1 at.0, λ extended. at.1 (moved row (λ r. (same r).0) extended)),
  );
  once = are.once;
} where
  moved : {zs us : List (Row V)} (row : Row V) → ((r : Row V) → Contains zs r → Contains us r) → IsExtended zs row → IsExtended us row
  moved row into extended = record { other = extended.other; listed = into extended.other extended.listed; extends = extended.extends; more = extended.more }

-- the sorted rows are the rows
pub same-sorted : (keys : List (List ℕ)) (row : Row ℕ) → Contains (map row_of (set_of key_cmp keys)) row ↔ Contains (map row_of keys) row
same-sorted keys row = (
  λ at. let from = place_of (set_of key_cmp keys) row at in moved (set_of key_cmp keys) keys row from.0 from.1 ((set.same (row_at (set_of key_cmp keys) from.0)).0 (here (set_of key_cmp keys) from.0 from.1.within)),
  λ at. let from = place_of keys row at in moved keys (set_of key_cmp keys) row from.0 from.1 ((set.same (row_at keys from.0)).1 (here keys from.0 from.1.within)),
) where
  set : IsSetOf key_cmp keys (set_of key_cmp keys)
  set = (IsSetOf-set_of key_cmp key_cmp-total key_cmp-exact keys (set_of key_cmp keys)).1 refl

  here : (xs : List (List ℕ)) (k : ℕ) → k < length xs → Contains xs (row_at xs k)
  here xs k lt = (k, lt, get_or_default xs k (row_at xs k) [] lt)

  moved : (xs ys : List (List ℕ)) (row : Row ℕ) (k : ℕ) → IsRowAt xs row k → Contains ys (row_at xs k) → Contains (map row_of ys) row
  moved xs ys row k at there = Contains-place ys row there.0 (record { within = there.1; is = ap row_of (get_or_default ys there.0 [] (row_at xs k) there.1 ∙ there.2) ∙ at.is })

-- keys of the same rows are the same
pub rows-injective : (xs ys : List (List ℕ)) → map row_of xs ≡ map row_of ys → xs ≡ ys
rows-injective [] [] h = refl
rows-injective [] (y ∷ ys) h = absurd (cc)
rows-injective (x ∷ xs) [] h = absurd (cc)
rows-injective (x ∷ xs) (y ∷ ys) h =
    let head : row_of x ≡ row_of y = cc in
    let tail : map row_of xs ≡ map row_of ys = cc in
    let first : x ≡ y = row_of-injective x y head in
    let others : xs ≡ ys = rows-injective xs ys tail in
    cc

-- keys that are read one after another
pub keys-step : (rows : List (Row ℕ)) (keys : List (List ℕ)) (i : ℕ) (cells key : List ℕ) → map row_of keys ≡ take i rows → slice_get rows i ≡ Some (row_of cells) → key ≡ cells →
    map row_of (keys ++ key ∷ []) ≡ take (i + 1) rows
keys-step rows keys i cells key before at same =
    map-append row_of keys (key ∷ []) ∙ ap (λ front. front ++ row_of key ∷ []) before ∙ ap (λ c. take i rows ++ row_of c ∷ []) same
    ∙ ap (λ row. take i rows ++ row ∷ []) (sym (get_or_from_slice_get rows i (row_of cells) (row_of cells) at))
    ∙ sym (take_more rows i (row_of cells) (slice_get_within rows i (row_of cells) at))

-- what holds of all rows holds of the sorted ones
pub All-sorted : (P : List ℕ → Type 0) (keys : List (List ℕ)) → All P keys → All P (set_of key_cmp keys)
All-sorted P keys all k d lt =
    let set : IsSetOf key_cmp keys (set_of key_cmp keys) = (IsSetOf-set_of key_cmp key_cmp-total key_cmp-exact keys (set_of key_cmp keys)).1 refl in
    All-contains P keys (get_or (set_of key_cmp keys) k d) all ((set.same (get_or (set_of key_cmp keys) k d)).0 (Contains-get_or (set_of key_cmp keys) k d lt))

pub ascends-sorted : (keys : List (List ℕ)) → IsStrictlySortedBy key_cmp (set_of key_cmp keys)
ascends-sorted keys = let set : IsSetOf key_cmp keys (set_of key_cmp keys) = (IsSetOf-set_of key_cmp key_cmp-total key_cmp-exact keys (set_of key_cmp keys)).1 refl in set.ascends
