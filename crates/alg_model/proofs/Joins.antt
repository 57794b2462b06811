-- The Join of two lists of rows. Where the rows of the one are those that bind just vs and have P, and those of
-- the other are those that bind just ws and have Q, its rows are those that bind just vs and ws and have both.
use Rattle.std.proofs.Common.{◌≡◌, ◌≢◌, ◌↔◌, ℕ, ◌++◌, inl, inr, Bool, true, false, eqb, List, get_or, map, flat_map, filter_map, AllPairs, Contains, Option, Some, None, IsTrue, IsSome, if◌then◌else◌, option_to_list, refl, sym, ◌∙◌, subst, arith, eq-eqb, eqb-true}
use Rattle.std.proofs.lemmas.Bool.{cases_lt, cases_Bool, cond-true, cond-false}
use Rattle.std.proofs.lemmas.List.FromFn.{length-map-range_with_len, get_or-map-range_with_len}
use Rattle.std.proofs.lemmas.List.Elements.{Contains-append_left, Contains-append_right, Contains-append_cases}
use Rattle.std.proofs.lemmas.List.Folds.{list_any_at, Any-from_list_any}
use Rattle.std.specs.List.{list_any, range_with_len}
use Rattle.alg_model.specs.Row.{Row, merged, join, binding}
use Rattle.alg_model.specs.Solution.{BindsJust}
use Rattle.alg_model.proofs.Lists.{filter_map_as_flat_map, Contains-option, option-Contains, Contains-flat_map, source-flat_map, AllPairs-option, once-flat_map}
use Rattle.alg_model.proofs.Width.{HasWidth}
use Rattle.alg_model.proofs.Cells.{cases_Option, value_from_IsSome, IsSome-from_value, binding_past, same_rows, IsUnion, union_from_merged, merged_from_union}

-- ---- a row that binds just these variables

-- a row that binds just these variables binds no other
pub unbound_elsewhere : {V : Type 0} (row : Row V) (vars : List ℕ) (k : ℕ) → BindsJust row vars → ¬ Contains vars k → binding row k ≡ None
unbound_elsewhere row vars k binds out =
    elim (cases_Option (binding row k)) as (λ _. binding row k ≡ None) [
      | inl some ↦ absurd (out ((binds k).0 (IsSome-from_value (binding row k) some.0 some.1)))
      | inr e ↦ e
    ]

-- a row that binds just these variables, to what q binds them to, is determined by q
pub determined : {V : Type 0} (n : ℕ) (vars : List ℕ) (r s q : Row V) → HasWidth n r → HasWidth n s → BindsJust r vars → BindsJust s vars →
    ((k : ℕ) (v : V) → binding r k ≡ Some v → binding q k ≡ Some v) → ((k : ℕ) (v : V) → binding s k ≡ Some v → binding q k ≡ Some v) → r ≡ s
determined n vars r s q hr hs br bs er es =
    same_rows n r s hr hs (λ k. elim (cases_Option (binding r k)) as (λ _. binding r k ≡ binding s k) [
      | inl some ↦
          let w = value_from_IsSome (binding s k) ((bs k).1 ((br k).0 (IsSome-from_value (binding r k) some.0 some.1))) in
          let first = er k some.0 some.1 in
          let second = es k w.0 w.1 in
          cc
      | inr none ↦
          let out : ¬ Contains vars k = λ at. let some = (br k).1 at in cc in
          none ∙ sym (unbound_elsewhere s vars k bs out)
    ])

-- ---- a row cut to some variables

-- whether a variable is among these
abbrev pub has : List ℕ → ℕ → Bool
has vars k = list_any (eqb k) vars

-- the test is true of a variable that is among these
has_from_Contains : (vars : List ℕ) (k : ℕ) → Contains vars k → has vars k ≡ true
has_from_Contains vars k at = list_any_at (eqb k) vars at.0 k at.1 (eq-eqb k (get_or vars at.0 k) (sym at.2))

-- and only of such
Contains-from_has : (vars : List ℕ) (k : ℕ) → has vars k ≡ true → Contains vars k
Contains-from_has vars k h =
    let some = Any-from_list_any (eqb k) vars h in
    let is = eqb-true k some.1 some.4 in
    (some.0, some.2, subst (λ x. get_or vars some.0 x ≡ x) (sym is) some.3)

-- the row without what it binds other variables to
abbrev pub cut : {V : Type 0} → ℕ → List ℕ → Row V → Row V
cut n vars row = map (λ k. if has vars k then binding row k else None) (range_with_len 0 n)

-- an unbound cell, whether it is taken or not
none_either_way : {V : Type 0} (b : Bool) (o : Option V) → o ≡ None → (if b then o else None) ≡ None
none_either_way true o is = is
none_either_way false o is = refl

module _ {V : Type 0} (n : ℕ) (vars : List ℕ) (row : Row V) (width : HasWidth n row) where
  -- a cut row has n cells
  pub width-cut : HasWidth n (cut n vars row)
  width-cut = length-map-range_with_len (λ k. if has vars k then binding row k else None) 0 n

  -- what a cut row binds a variable to
  pub binding-cut : (k : ℕ) → binding (cut n vars row) k ≡ (if has vars k then binding row k else None)
  binding-cut k =
      elim (cases_lt k n) as (λ _. binding (cut n vars row) k ≡ (if has vars k then binding row k else None)) [
        | inl low ↦ get_or-map-range_with_len (λ k. if has vars k then binding row k else None) 0 n k k None low (omega arith)
        | inr past ↦ binding_past n (cut n vars row) k width-cut past ∙ sym (none_either_way (has vars k) (binding row k) (binding_past n row k width past))
      ]

  -- it binds these variables as the row does
  pub cut_inside : (k : ℕ) → Contains vars k → binding (cut n vars row) k ≡ binding row k
  cut_inside k at = binding-cut k ∙ cond-true (has vars k) (binding row k) None (has_from_Contains vars k at)

  -- and what it binds is one of these variables, bound as in the row
  pub cut_value : (k : ℕ) (v : V) → binding (cut n vars row) k ≡ Some v → Contains vars k × (binding row k ≡ Some v)
  cut_value k v is =
      elim (cases_Bool (has vars k)) as (λ _. Contains vars k × (binding row k ≡ Some v)) [
        | inl among ↦ let at = Contains-from_has vars k among in (at, sym (cut_inside k at) ∙ is)
        | inr out ↦ let none = binding-cut k ∙ cond-false (has vars k) (binding row k) None out in cc
      ]

  -- it binds just these variables, where the row binds them all
  pub cut_binds : ((k : ℕ) → Contains vars k → IsSome (binding row k)) → BindsJust (cut n vars row) vars
  cut_binds bound k = (
    λ some. let v = value_from_IsSome (binding (cut n vars row) k) some in (cut_value k v.0 v.1).0,
    λ at. rw cut_inside (bound k at),
  )

-- ---- lists of rows

-- a row of n cells that binds just these variables and has P
pub record IsRowOf {V : Type 0} (n : ℕ) (vars : List ℕ) (P : Row V → Type 0) (row : Row V) : Type 0 where
  pub width : HasWidth n row
  pub binds : BindsJust row vars
  pub holds : P row

-- the rows are those
pub record AreRowsOf {V : Type 0} (n : ℕ) (vars : List ℕ) (P : Row V → Type 0) (rows : List (Row V)) : Type 0 where
  pub sound : (row : Row V) → Contains rows row → IsRowOf n vars P row
  pub complete : (row : Row V) → IsRowOf n vars P row → Contains rows row

-- P looks at nothing but what a row binds these variables to
pub record LooksAt {V : Type 0} (vars : List ℕ) (P : Row V → Type 0) : Type 0 where
  pub along : (r s : Row V) → ((k : ℕ) → Contains vars k → binding r k ≡ binding s k) → P r → P s

-- two facts that look at vs and at ws look together at both
pub LooksAt-both : {V : Type 0} (vs ws : List ℕ) (P Q : Row V → Type 0) → LooksAt vs P → LooksAt ws Q → LooksAt (vs ++ ws) (λ row. P row × Q row)
LooksAt-both vs ws P Q hp hq = record {
  along = λ r s same both. (
    hp.along r s (λ k at. same k (Contains-append_left vs ws k at)) both.0,
    hq.along r s (λ k at. same k (Contains-append_right vs ws k at)) both.1,
  );
}

-- ---- the Join

module _ {V : Type 0} (test : V → V → Bool) where
  -- the merges of one row, as a `flat_map`
  pub merged_as_flat_map : (r : Row V) (right : List (Row V)) → filter_map (merged test r) right ≡ flat_map (λ s. option_to_list (merged test r s)) right
  merged_as_flat_map r = filter_map_as_flat_map (merged test r)

  -- a merge of one row, and the other that it came of
  pub merges-Contains : (r : Row V) (right : List (Row V)) (q : Row V) → Contains (filter_map (merged test r) right) q → (s : Row V) × Contains right s × (merged test r s ≡ Some q)
  merges-Contains r right q h =
      let from = source-flat_map (λ s. option_to_list (merged test r s)) right q (subst (λ rows. Contains rows q) (merged_as_flat_map r right) h) in
      (from.0, from.1, option-Contains (merged test r from.0) q from.2)

  -- the merges of one row have that with each compatible row
  pub Contains-merges : (r : Row V) (right : List (Row V)) (s q : Row V) → Contains right s → merged test r s ≡ Some q → Contains (filter_map (merged test r) right) q
  Contains-merges r right s q at is =
      subst (λ rows. Contains rows q) (sym (merged_as_flat_map r right))
      (Contains-flat_map (λ s. option_to_list (merged test r s)) right s q at (Contains-option (merged test r s) q is))

  -- a row of the Join, and the two that it merges
  pub join-Contains : (left right : List (Row V)) (q : Row V) → Contains (join test left right) q → (r : Row V) × (s : Row V) × Contains left r × Contains right s × (merged test r s ≡ Some q)
  join-Contains left right q h =
      let from = source-flat_map (λ r. filter_map (merged test r) right) left q h in
      let second = merges-Contains from.0 right q from.2 in
      (from.0, second.0, from.1, second.1, second.2)

  -- the Join has the merge of each two compatible rows
  pub Contains-join : (left right : List (Row V)) (r s q : Row V) → Contains left r → Contains right s → merged test r s ≡ Some q → Contains (join test left right) q
  Contains-join left right r s q hr hs is =
      Contains-flat_map (λ r. filter_map (merged test r) right) left r q hr (Contains-merges r right s q hs is)

-- a union binds just the variables of both rows
pub union_binds : {V : Type 0} (vs ws : List ℕ) (r s q : Row V) → BindsJust r vs → BindsJust s ws → IsUnion r s q → BindsJust q (vs ++ ws)
union_binds vs ws r s q hr hs u k = (
  λ some. elim (cases_Option (binding r k)) as (λ _. Contains (vs ++ ws) k) [
    | inl first ↦ Contains-append_left vs ws k ((hr k).0 (IsSome-from_value (binding r k) first.0 first.1))
    | inr none ↦ elim (cases_Option (binding s k)) as (λ _. Contains (vs ++ ws) k) [
      | inl second ↦ Contains-append_right vs ws k ((hs k).0 (IsSome-from_value (binding s k) second.0 second.1))
      | inr none_either ↦ let nothing = u.no_more k none none_either in cc
    ]
  ],
  λ at. elim (Contains-append_cases vs ws k at) as (λ _. IsSome (binding q k)) [
    | inl first ↦ let v = value_from_IsSome (binding r k) ((hr k).1 first) in IsSome-from_value (binding q k) v.0 (u.left k v.0 v.1)
    | inr second ↦ let v = value_from_IsSome (binding s k) ((hs k).1 second) in IsSome-from_value (binding q k) v.0 (u.right k v.0 v.1)
  ],
)

-- a row and one that binds the same values agree where the first binds
pub agrees : {V : Type 0} (vars : List ℕ) (r q : Row V) → BindsJust r vars → ((k : ℕ) (v : V) → binding r k ≡ Some v → binding q k ≡ Some v) → (k : ℕ) → Contains vars k → binding r k ≡ binding q k
agrees vars r q binds extends k at = let v = value_from_IsSome (binding r k) ((binds k).1 at) in v.1 ∙ sym (extends k v.0 v.1)

module _ {V : Type 0} (test : V → V → Bool) (same : (v w : V) → IsTrue (test v w) ↔ (v ≡ w)) (n : ℕ) (vs ws : List ℕ) (P Q : Row V → Type 0) (left right : List (Row V))
    (are_left : AreRowsOf n vs P left) (are_right : AreRowsOf n ws Q right) where
  -- a row of the Join binds what its two rows bind
  union_of : (r s q : Row V) → Contains left r → Contains right s → merged test r s ≡ Some q → HasWidth n q × IsUnion r s q
  union_of r s q hr hs is = union_from_merged test same n r s q (are_left.sound r hr).width (are_right.sound s hs).width is

  -- the rows of the Join are those that bind just vs and ws and have both P and Q
  pub rows-join : LooksAt vs P → LooksAt ws Q → AreRowsOf n (vs ++ ws) (λ row. P row × Q row) (join test left right)
  rows-join looks_p looks_q = record {
    sound = λ q h.
        let from = join-Contains test left right q h in
        let r = from.0 in
        let s = from.1 in
        let is_r = are_left.sound r from.2 in
        let is_s = are_right.sound s from.3 in
        let u = union_of r s q from.2 from.3 from.4 in
        record {
          width = u.0;
          binds = union_binds vs ws r s q is_r.binds is_s.binds u.1;
          holds = (looks_p.along r q (agrees vs r q is_r.binds u.1.left) is_r.holds, looks_q.along s q (agrees ws s q is_s.binds u.1.right) is_s.holds);
        };
    complete = λ q is.
        let r = cut n vs q in
        let s = cut n ws q in
        let is_r : IsRowOf n vs P r = record {
          width = width-cut n vs q is.width;
          binds = cut_binds n vs q is.width (λ k at. (is.binds k).1 (Contains-append_left vs ws k at));
          holds = looks_p.along q r (λ k at. sym (cut_inside n vs q is.width k at)) is.holds.0;
        } in
        let is_s : IsRowOf n ws Q s = record {
          width = width-cut n ws q is.width;
          binds = cut_binds n ws q is.width (λ k at. (is.binds k).1 (Contains-append_right vs ws k at));
          holds = looks_q.along q s (λ k at. sym (cut_inside n ws q is.width k at)) is.holds.1;
        } in
        let u : IsUnion r s q = record {
          left = λ k v e. (cut_value n vs q is.width k v e).1;
          right = λ k v e. (cut_value n ws q is.width k v e).1;
          no_more = λ k e f. unbound_elsewhere q (vs ++ ws) k is.binds (λ at. elim (Contains-append_cases vs ws k at) as (λ _. ⊥) [
            | inl first ↦ let some = (is_r.binds k).1 first in cc
            | inr second ↦ let some = (is_s.binds k).1 second in cc
          ]);
        } in
        Contains-join test left right r s q (are_left.complete r is_r) (are_right.complete s is_s)
        (merged_from_union test same n r s q is_r.width is_s.width is.width u);
  }

  -- no row of the Join stands twice, where none of either side does
  pub once-join : AllPairs (λ r s. r ≢ s) left → AllPairs (λ r s. r ≢ s) right → AllPairs (λ r s. r ≢ s) (join test left right)
  once-join once_left once_right =
      once-flat_map (λ r. filter_map (merged test r) right) left once_left
      (λ r hr. subst (AllPairs (λ r s. r ≢ s)) (sym (merged_as_flat_map test r right))
      (once-flat_map (λ s. option_to_list (merged test r s)) right once_right (λ s hs. AllPairs-option (λ r s. r ≢ s) (merged test r s))
      (λ s s' q hs hs' at at'.
      let u = union_of r s q hr hs (option-Contains (merged test r s) q at) in
      let u' = union_of r s' q hr hs' (option-Contains (merged test r s') q at') in
      let is_s = are_right.sound s hs in
      let is_s' = are_right.sound s' hs' in
      determined n ws s s' q is_s.width is_s'.width is_s.binds is_s'.binds u.1.right u'.1.right)))
      (λ r r' q hr hr' at at'.
      let s = merges-Contains test r right q at in
      let s' = merges-Contains test r' right q at' in
      let u = union_of r s.0 q hr s.1 s.2 in
      let u' = union_of r' s'.0 q hr' s'.1 s'.2 in
      let is_r = are_left.sound r hr in
      let is_r' = are_left.sound r' hr' in
      determined n vs r r' q is_r.width is_r'.width is_r.binds is_r'.binds u.1.left u'.1.left)
