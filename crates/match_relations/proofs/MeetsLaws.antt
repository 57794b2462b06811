-- When a triple of terms is a match of a triple pattern.
use Rattle.std.proofs.Common.{◌≡◌, ◌⊎◌, ℕ, ◌<◌, inl, inr, Bool, true, false, List, [], ◌∷◌, ◌++◌, map, Contains, Option, Some, None, is_some, option_to_list, if◌then◌else◌, refl, sym, ap, ◌∙◌, subst, arith, eq-eqb, ◌==◌}
use Rattle.std.proofs.lemmas.Bool.{cases_eq, ne_eqb}
use Rattle.std.proofs.lemmas.List.Elements.{Contains-append_left, Contains-append_right}
use Rattle.std.proofs.lemmas.List.FromFn.{get_or-map-range_with_len, length-map-range_with_len}
use Rattle.std.specs.List.{range_with_len}
use Rattle.bm_term.specs.declared.triple.Triple.{Triple}
use Rattle.bm_term.proofs.Elements.{Contains-head, Contains-nil, Contains-single}
use Rattle.alg_model.specs.declared.pattern.Place.{Place}
use Rattle.alg_model.specs.declared.pattern.Place.TheVariants as places
use Rattle.alg_model.specs.declared.pattern.TriplePat.{TriplePat}
use Rattle.alg_model.specs.Row.{Row, binding}
use Rattle.alg_model.specs.Pattern.{IsVar, place_vars, triple_vars}
use Rattle.alg_model.specs.Eval.{as_terms, match_of}
use Rattle.alg_model.specs.Solution.{Becomes, Makes}
use Rattle.alg_model.proofs.BasicPatterns.{AreBelow, as_terms-values, looks_makes, rows_of_match}
use Rattle.alg_model.proofs.Cells.{IsSome-from_value}
use Rattle.alg_model.proofs.Joins.{cut, width-cut, cut_binds, cut_inside}
use Rattle.alg_model.proofs.Lists.{option-Contains}

-- a place has the term: a variable any, and a term itself
abbrev pub MeetsPlace : Place → List ℕ → Type 0
MeetsPlace (places.Var var) value = Unit {0}
MeetsPlace (places.Term text) value = value ≡ text

-- each place has the term of the triple, and a variable that is subject and object has one term
pub record Meets (pattern : TriplePat) (t : Triple) : Type 0 where
  pub subject : MeetsPlace pattern.subject t.subject
  pub predicate : MeetsPlace pattern.predicate t.predicate
  pub object : MeetsPlace pattern.object t.object
  pub itself : (v : ℕ) → IsVar pattern.subject v → IsVar pattern.object v → t.subject ≡ t.object

-- a place becomes a term that it has
becomes_meets : (row : Row (List ℕ)) (place : Place) (value : List ℕ) → Becomes as_terms row place value → MeetsPlace place value
becomes_meets row (places.Var var) value is = tt
becomes_meets row (places.Term text) value is = (as_terms-values value text).0 is

-- and is bound to it
becomes_bound : (row : Row (List ℕ)) (place : Place) (value : List ℕ) (v : ℕ) → Becomes as_terms row place value → IsVar place v → binding row v ≡ Some value
becomes_bound row (places.Var var) value v is at = subst (λ k. binding row k ≡ Some value) at is
becomes_bound row (places.Term text) value v is at = absurd at

is_there : {X : Type 0} (o : Option X) → is_some o ≡ true → (x : X) × Contains (option_to_list o) x
is_there None is = cc
is_there (Some x) is = (x, Contains-head x [])

-- the variable of a place is among the place's variables
in_place : (place : Place) (v : ℕ) → IsVar place v → Contains (place_vars place) v
in_place (places.Var var) v at = subst (Contains (var.0 ∷ [])) at (Contains-head var.0 [])
in_place (places.Term text) v at = absurd at

from_place : (place : Place) (v : ℕ) → Contains (place_vars place) v → IsVar place v
from_place (places.Var var) v at = Contains-single var.0 v at
from_place (places.Term text) v at = absurd (Contains-nil v at)

module _ (n : ℕ) (pattern : TriplePat) (t : Triple) (below : AreBelow n (triple_vars pattern)) where
  -- a match meets the triple pattern
  pub match_meets : is_some (match_of as_terms n pattern t) ≡ true → Meets pattern t
  match_meets is =
      let row = is_there (match_of as_terms n pattern t) is in
      let makes = ((rows_of_match as_terms as_terms-values n pattern t below).sound row.0 row.1).holds in
      record {
        subject = becomes_meets row.0 pattern.subject t.subject makes.subject;
        predicate = becomes_meets row.0 pattern.predicate t.predicate makes.predicate;
        object = becomes_meets row.0 pattern.object t.object makes.object;
        itself = λ v first second.
            let subject = becomes_bound row.0 pattern.subject t.subject v makes.subject first in
            let object = becomes_bound row.0 pattern.object t.object v makes.object second in
            cc;
      }

  -- ---- a row that makes the triple pattern the triple

  -- whether the place is the variable
  abbrev is_var : Place → ℕ → Bool
  is_var (places.Var var) v = var.0 == v
  is_var (places.Term text) v = false

  abbrev value_at : ℕ → List ℕ
  value_at v = if is_var pattern.predicate v then t.predicate else (if is_var pattern.subject v then t.subject else t.object)

  abbrev row_for : Row (List ℕ)
  row_for = map (λ v. Some (value_at v)) (range_with_len 0 n)

  is_var-true : (place : Place) (v : ℕ) → IsVar place v → is_var place v ≡ true
  is_var-true (places.Var var) v at = eq-eqb var.0 v at
  is_var-true (places.Term text) v at = absurd at

  is_var-false : (place : Place) (v : ℕ) → (IsVar place v → ⊥) → is_var place v ≡ false
  is_var-false (places.Var var) v none = ne_eqb var.0 v none
  is_var-false (places.Term text) v none = refl

  is_var-cases : (place : Place) (v : ℕ) → IsVar place v ⊎ (IsVar place v → ⊥)
  is_var-cases (places.Var var) v = elim (cases_eq var.0 v) as (λ _. (var.0 ≡ v) ⊎ (var.0 ≡ v → ⊥)) [ inl is ↦ inl is | inr other ↦ inr other ]
  is_var-cases (places.Term text) v = inr (λ h. h)

  bound : (v : ℕ) → v < n → binding row_for v ≡ Some (value_at v)
  bound v low = get_or-map-range_with_len (λ v. Some (value_at v)) 0 n v v None low (omega arith)

  -- a place becomes a term that it has, where its variable has this value
  becomes : (place : Place) (value : List ℕ) → MeetsPlace place value → ((v : ℕ) → IsVar place v → v < n) → ((v : ℕ) → IsVar place v → value_at v ≡ value) → Becomes as_terms row_for place value
  becomes (places.Var var) value meets low is = bound var.0 (low var.0 refl) ∙ ap Some (is var.0 refl)
  becomes (places.Term text) value meets low is = (as_terms-values value text).1 meets

  module _ (apart : (v : ℕ) → IsVar pattern.predicate v → IsVar pattern.subject v ⊎ IsVar pattern.object v → ⊥) (meets : Meets pattern t) where
    at_subject : (v : ℕ) → IsVar pattern.subject v → value_at v ≡ t.subject
    at_subject v at = rw (is_var-false pattern.predicate v (λ p. apart v p (inl at)), is_var-true pattern.subject v at) refl

    at_object : (v : ℕ) → IsVar pattern.object v → value_at v ≡ t.object
    at_object v at = elim (is_var-cases pattern.subject v) as (λ _. value_at v ≡ t.object) [
      | inl also ↦ at_subject v also ∙ meets.itself v also at
      | inr alone ↦ rw (is_var-false pattern.predicate v (λ p. apart v p (inr at)), is_var-false pattern.subject v alone) refl
    ]

    at_predicate : (v : ℕ) → IsVar pattern.predicate v → value_at v ≡ t.predicate
    at_predicate v at = rw (is_var-true pattern.predicate v at) refl

    in_subject : (v : ℕ) → IsVar pattern.subject v → Contains (triple_vars pattern) v
    in_subject v at = Contains-append_left (place_vars pattern.subject ++ place_vars pattern.predicate) (place_vars pattern.object) v (Contains-append_left (place_vars pattern.subject) (place_vars pattern.predicate) v (in_place pattern.subject v at))

    in_predicate : (v : ℕ) → IsVar pattern.predicate v → Contains (triple_vars pattern) v
    in_predicate v at = Contains-append_left (place_vars pattern.subject ++ place_vars pattern.predicate) (place_vars pattern.object) v (Contains-append_right (place_vars pattern.subject) (place_vars pattern.predicate) v (in_place pattern.predicate v at))

    in_object : (v : ℕ) → IsVar pattern.object v → Contains (triple_vars pattern) v
    in_object v at = Contains-append_right (place_vars pattern.subject ++ place_vars pattern.predicate) (place_vars pattern.object) v (in_place pattern.object v at)

    makes_row : Makes as_terms row_for pattern t
    makes_row = record {
      subject = becomes pattern.subject t.subject meets.subject (λ v at. below v (in_subject v at)) at_subject;
      predicate = becomes pattern.predicate t.predicate meets.predicate (λ v at. below v (in_predicate v at)) at_predicate;
      object = becomes pattern.object t.object meets.object (λ v at. below v (in_object v at)) at_object;
    }

    -- so a triple that meets the triple pattern is a match
    pub meets_match : is_some (match_of as_terms n pattern t) ≡ true
    meets_match =
        let vars = triple_vars pattern in
        let own = cut n vars row_for in
        let wide = length-map-range_with_len (λ v. Some (value_at v)) 0 n in
        let there = (rows_of_match as_terms as_terms-values n pattern t below).complete own (record {
          width = width-cut n vars row_for wide;
          binds = cut_binds n vars row_for wide (λ v at. IsSome-from_value (binding row_for v) (value_at v) (bound v (below v at)));
          holds = (looks_makes as_terms as_terms-values n pattern t).along row_for own (λ v at. sym (cut_inside n vars row_for wide v at)) makes_row;
        }) in
        ap is_some (option-Contains (match_of as_terms n pattern t) own there)
