-- What a pair binds in a row of cells, seen as a row of values: the values that it gives, and nothing else.
use Rattle.std.proofs.Common.{◌≡◌, ◌≢◌, ◌⊎◌, ℕ, zero, suc, ◌+◌, ◌<◌, inl, inr, true, false, List, length, get_or, set, Option, Some, None, refl, sym, ◌∙◌, ap, subst, eqb-true, eq-eqb, arith}
use Rattle.std.specs.Prelude.{◌==◌}
use Rattle.std.proofs.Math.ListN.{get_or-map}
use Rattle.std.proofs.lemmas.Bool.{cases_Bool, cases_eq}
use Rattle.std.proofs.lemmas.List.{length-map, length-set, get_or-set_same, get_or-set_other}
use Rattle.std.proofs.lemmas.Option.{none-some, same_Some}
use Rattle.alg_model.specs.Row.{Row, binding, Extends}
use Rattle.alg_model.proofs.Cells.{cases_Option}
use Rattle.pattern_tree.specs.FlatTable.{cell_of, row_of}
use Rattle.tree_relations.specs.declared.prepared.Entry.{Entry}
use Rattle.tree_relations.specs.declared.prepared.Prepared.{Prepared}
use Rattle.tree_relations.specs.declared.prepared.SidePlace.{SidePlace}
use Rattle.tree_relations.specs.Readings.{value_of, SideGives, EntryGives}
use Rattle.multiway_join.specs.steps.Binding.{put_cell, bind_side, bind_next, bind_pair, HasCell}
use Rattle.multiway_join.proofs.Agreement.{blocked}

-- q binds what the row binds and what is given, and nothing else
pub record IsBoundBy (gives : ℕ → ℕ → Type 0) (row q : Row ℕ) : Type 0 where
  pub width : length q ≡ length row
  pub given : (k v : ℕ) → gives k v → binding q k ≡ Some v
  pub before : (k v : ℕ) → binding row k ≡ Some v → binding q k ≡ Some v
  pub no_more : (k : ℕ) → binding row k ≡ None → ((v : ℕ) → ¬ gives k v) → binding q k ≡ None

pub binding_cell : (row : List ℕ) (k : ℕ) → binding (row_of row) k ≡ cell_of (get_or row k 0)
binding_cell row k = get_or-map cell_of row k 0

cell_of_value : (v : ℕ) → cell_of (v + 1) ≡ Some v
cell_of_value v = (let e : v + 1 ≡ suc v = omega arith in ap cell_of e)

bound_nothing : (gives : ℕ → ℕ → Type 0) (row : Row ℕ) → ((k v : ℕ) → ¬ gives k v) → IsBoundBy gives row row
bound_nothing gives row none = record { width = refl; given = λ k v is. absurd (none k v is); before = λ k v is. is; no_more = λ k is never. is }

bound_then : (gives gives' : ℕ → ℕ → Type 0) (r m q : Row ℕ) → IsBoundBy gives r m → IsBoundBy gives' m q → IsBoundBy (λ k v. gives k v ⊎ gives' k v) r q
bound_then gives gives' r m q one two = record {
  width = two.width ∙ one.width;
  given = λ k v is. elim is as (λ _. binding q k ≡ Some v) [ inl a ↦ two.before k v (one.given k v a) | inr b ↦ two.given k v b ];
  before = λ k v is. two.before k v (one.before k v is);
  no_more = λ k is never. two.no_more k (one.no_more k is (λ v a. never v (inl a))) (λ v b. never v (inr b));
}

-- ---- one cell

module _ (var value : ℕ) (row : List ℕ) where
  -- the variable has the value
  abbrev One : ℕ → ℕ → Type 0
  One k v = (var ≡ k) × (value ≡ v)

  -- where nothing is bound
  put_free : var < length row → get_or row var 0 ≡ 0 → IsBoundBy One (row_of row) (row_of (set row var (value + 1)))
  put_free low free = record {
    width = length-map (set row var (value + 1)) cell_of ∙ length-set row var (value + 1) ∙ sym (length-map row cell_of);
    given = λ k v is.
        subst (λ (k : ℕ). binding (row_of longer) k ≡ Some v) is.0
        (binding_cell longer var ∙ ap cell_of (get_or-set_same row var (value + 1) 0 low) ∙ cell_of_value value ∙ ap Some is.1);
    before = λ k v is. elim (cases_eq k var) as (λ _. binding (row_of longer) k ≡ Some v) [
      | inl same ↦ absurd (let none : binding (row_of row) k ≡ None = binding_cell row k ∙ ap (λ (i : ℕ). cell_of (get_or row i 0)) same ∙ ap cell_of free in none-some v (sym none ∙ is))
      | inr other ↦ elsewhere k other ∙ is
    ];
    no_more = λ k is never. elim (cases_eq k var) as (λ _. binding (row_of longer) k ≡ None) [
      | inl same ↦ absurd (never value (sym same, refl))
      | inr other ↦ elsewhere k other ∙ is
    ];
  }
    where
      longer : List ℕ
      longer = set row var (value + 1)

      elsewhere : (k : ℕ) → k ≢ var → binding (row_of longer) k ≡ binding (row_of row) k
      elsewhere k other = binding_cell longer k ∙ ap cell_of (get_or-set_other row var k (value + 1) 0 other) ∙ sym (binding_cell row k)

  -- where the value is bound
  put_same : get_or row var 0 ≡ value + 1 → IsBoundBy One (row_of row) (row_of row)
  put_same bound = record {
    width = refl;
    given = λ k v is. subst (λ (k : ℕ). binding (row_of row) k ≡ Some v) is.0 (binding_cell row var ∙ ap cell_of bound ∙ cell_of_value value ∙ ap Some is.1);
    before = λ k v is. is;
    no_more = λ k is never. is;
  }

  put_bound : (q : List ℕ) → var < length row → put_cell var (value + 1) row ≡ Some q → IsBoundBy One (row_of row) (row_of q)
  put_bound q low put = elim (cases_Bool (get_or row var 0 == 0)) as (λ _. IsBoundBy One (row_of row) (row_of q)) [
    | inl free ↦
        let is : Some (set row var (value + 1)) ≡ Some q = rw free at put in
        subst (λ (q : List ℕ). IsBoundBy One (row_of row) (row_of q)) (same_Some (set row var (value + 1)) q is) (put_free low (eqb-true (get_or row var 0) 0 free))
    | inr taken ↦ elim (cases_Bool (get_or row var 0 == value + 1)) as (λ _. IsBoundBy One (row_of row) (row_of q)) [
      | inl same ↦
          let is : Some row ≡ Some q = rw (taken, same) at put in
          subst (λ (q : List ℕ). IsBoundBy One (row_of row) (row_of q)) (same_Some row q is) (put_same (eqb-true (get_or row var 0) (value + 1) same))
      | inr differs ↦ absurd (let is : None ≡ Some q = rw (taken, differs) at put in none-some q is)
    ]
  ]

  -- a row that extends the row and has the value shows that the cell can be put
  put_some : (whole : Row ℕ) → Extends whole (row_of row) → binding whole var ≡ Some value → put_cell var (value + 1) row ≡ None → ⊥
  put_some whole over has none =
      let is = blocked var (value + 1) row none in
      by (get_or row var 0) refl is.0 is.1
    where
      by : (c : ℕ) → get_or row var 0 ≡ c → (get_or row var 0 == 0) ≡ false → (get_or row var 0 == value + 1) ≡ false → ⊥
      by zero e empty differs = (let free : (get_or row var 0 == 0) ≡ true = eq-eqb (get_or row var 0) 0 e in cc)
      by (suc w) e empty differs =
          let bound : binding (row_of row) var ≡ Some w = binding_cell row var ∙ ap cell_of e in
          let same : w ≡ value = same_Some w value (sym (over var w bound) ∙ has) in
          let is : get_or row var 0 ≡ value + 1 = omega (arith, e, same) in
          let equal : (get_or row var 0 == value + 1) ≡ true = eq-eqb (get_or row var 0) (value + 1) is in cc

-- ---- a side, and a pair

module _ (p : Prepared) where
  side_bound : (side : Option SidePlace) (n : ℕ) (row q : List ℕ) → HasCell (length row) side → bind_side p side n row ≡ Some q → IsBoundBy (SideGives p side n) (row_of row) (row_of q)
  side_bound None n row q cell is =
      subst (λ (q : List ℕ). IsBoundBy (SideGives p None n) (row_of row) (row_of q)) (same_Some row q is) (bound_nothing (SideGives p None n) (row_of row) (λ k v gives. gives))
  side_bound (Some place) n row q cell is = put_bound place.var.0 (value_of p place.kind n) row q cell is

  side_some : (side : Option SidePlace) (n : ℕ) (row : List ℕ) (whole : Row ℕ) → Extends whole (row_of row) → ((k v : ℕ) → SideGives p side n k v → binding whole k ≡ Some v) → bind_side p side n row ≡ None → ⊥
  side_some None n row whole over has none = none-some row (sym none)
  side_some (Some place) n row whole over has none = put_some place.var.0 (value_of p place.kind n) row whole over (has place.var.0 (value_of p place.kind n) (refl, refl)) none

  -- the number is given or it is not
  gives_or_not : (side : Option SidePlace) (n k : ℕ) → ((v : ℕ) × SideGives p side n k v) ⊎ ((v : ℕ) → ¬ SideGives p side n k v)
  gives_or_not None n k = inr (λ v gives. gives)
  gives_or_not (Some place) n k = elim (cases_eq place.var.0 k) as (λ _. ((v : ℕ) × SideGives p (Some place) n k v) ⊎ ((v : ℕ) → ¬ SideGives p (Some place) n k v)) [
    | inl same ↦ inl (value_of p place.kind n, (same, refl))
    | inr other ↦ inr (λ v gives. other gives.0)
  ]

  -- what extends the row and has what a side gives extends the row with it
  over_side : (side : Option SidePlace) (n : ℕ) (row q whole : Row ℕ) → IsBoundBy (SideGives p side n) row q → Extends whole row → ((k v : ℕ) → SideGives p side n k v → binding whole k ≡ Some v) → Extends whole q
  over_side side n row q whole is over has k v bound = elim (gives_or_not side n k) as (λ _. binding whole k ≡ Some v) [
    | inl gives ↦ has k gives.0 gives.1 ∙ (sym (is.given k gives.0 gives.1) ∙ bound)
    | inr never ↦ elim (cases_Option (binding row k)) as (λ _. binding whole k ≡ Some v) [
      | inl some ↦ over k some.0 some.1 ∙ (sym (is.before k some.0 some.1) ∙ bound)
      | inr none ↦ absurd (none-some v (sym (is.no_more k none never) ∙ bound))
    ]
  ]

  module _ (e : Entry) (pair : ℕ × ℕ) (row : List ℕ) (first_cell : HasCell (length row) e.first) (second_cell : HasCell (length row) e.second) where
    second_cell_of : (m : List ℕ) → IsBoundBy (SideGives p e.first pair.0) (row_of row) (row_of m) → HasCell (length m) e.second
    second_cell_of m is =
        let long : length m ≡ length row = sym (length-map m cell_of) ∙ is.width ∙ length-map row cell_of in
        subst (λ (n : ℕ). HasCell n e.second) (sym long) second_cell

    -- the row with a pair binds what the row binds and what the pair gives
    pub pair_bound : (q : List ℕ) → bind_pair p e row pair ≡ Some q → IsBoundBy (EntryGives p e pair) (row_of row) (row_of q)
    pair_bound q is = by (bind_side p e.first pair.0 row) refl is
      where
        by : (o : Option (List ℕ)) → bind_side p e.first pair.0 row ≡ o → bind_next p e.second pair.1 o ≡ Some q → IsBoundBy (EntryGives p e pair) (row_of row) (row_of q)
        by None first second = absurd (none-some q second)
        by (Some m) first second =
            let one = side_bound e.first pair.0 row m first_cell first in
            bound_then (SideGives p e.first pair.0) (SideGives p e.second pair.1) (row_of row) (row_of m) (row_of q) one (side_bound e.second pair.1 m q (second_cell_of m one) second)

    -- where such a row is, the row agrees with the pair
    pub pair_agrees : (whole : Row ℕ) → IsBoundBy (EntryGives p e pair) (row_of row) whole → bind_pair p e row pair ≡ None → ⊥
    pair_agrees whole is none = by (bind_side p e.first pair.0 row) refl none
      where
        by : (o : Option (List ℕ)) → bind_side p e.first pair.0 row ≡ o → bind_next p e.second pair.1 o ≡ None → ⊥
        by None first second = side_some e.first pair.0 row whole is.before (λ k v gives. is.given k v (inl gives)) first
        by (Some m) first second =
            let one = side_bound e.first pair.0 row m first_cell first in
            side_some e.second pair.1 m whole (over_side e.first pair.0 (row_of row) (row_of m) whole one is.before (λ k v gives. is.given k v (inl gives))) (λ k v gives. is.given k v (inr gives)) second
