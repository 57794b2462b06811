-- The variables at predicate places and at node places, as words, and the least variable of both.
use Rattle.std.proofs.Common.{◌≡◌, ◌≢◌, ◌↔◌, ◌⊎◌, ℕ, ◌<◌, ◌≤◌, ◌^◌, ◌++◌, inl, inr, List, [], ◌∷◌, fold, flat_map, All, Contains, bit_and, bit_or, w64, sym, subst, arith, lit<}
use Rattle.std.specs.Int.{bit_at, trailing_zeros}
use Rattle.std.proofs.lemmas.Bool.{cases_lt}
use Rattle.std.proofs.lemmas.List.Concat.{flat_map-append}
use Rattle.std.proofs.lemmas.List.Elements.{All-head, All-tail, Contains-append_left, Contains-append_right, Contains-append_cases}
use Rattle.std.proofs.lemmas.Nat.{or_lt, and_le_l}
use Rattle.std.proofs.lemmas.Nat.Bits.{bit_at-zero, bit_at-lt, bit_at_and, bit_at-trailing_zeros}
use Rattle.bm_term.proofs.Elements.{Contains-head, Contains-nil, Contains-single}
use Rattle.alg_model.specs.declared.pattern.Place.{Place}
use Rattle.alg_model.specs.declared.pattern.Place.TheVariants as places
use Rattle.alg_model.specs.declared.pattern.TriplePat.{TriplePat}
use Rattle.alg_model.specs.declared.var.Var.{Var}
use Rattle.alg_model.specs.Pattern.{Algebra, Bgp, Join, LeftJoin, IsVar, place_vars, triple_patterns, StandsAtPredicate, StandsAtNode}
use Rattle.alg_model.specs.VarSet.{HoldsJust, place_set, TripleFits, PatternFits}
use Rattle.alg_model.proofs.Lists.{Contains-flat_map, source-flat_map}
use Rattle.alg_model.proofs.VarSets.{HoldsJust-nil, HoldsJust-or, HoldsJust-fold, HoldsJust-place, place_set-lt}
use Rattle.well_designed.specs.Places.{predicate_set, node_set, set_by}
use Rattle.well_designed.specs.Refusals.{IsCrossPlace, HasNoCrossPlace}
use Rattle.well_designed.proofs.LeastNumbers.{Any-from, Contains-any}

-- the variables at the predicate place of a triple pattern, and at its node places
abbrev predicate_vars : TriplePat → List ℕ
predicate_vars triple = place_vars triple.predicate

abbrev node_vars : TriplePat → List ℕ
node_vars triple = place_vars triple.subject ++ place_vars triple.object

-- the sets of a pattern hold them
holds_by : (word : TriplePat → ℕ) (vars : TriplePat → List ℕ) → ((triple : TriplePat) → HoldsJust (word triple) (vars triple)) → (pattern : Algebra) → HoldsJust (set_by word pattern) (flat_map vars (triple_patterns pattern))
holds_by word vars each (Bgp list) = HoldsJust-fold word vars each list 0 [] HoldsJust-nil
holds_by word vars each (Join left right) =
    let l = flat_map vars (triple_patterns left) in
    let r = flat_map vars (triple_patterns right) in
    subst (HoldsJust (bit_or (set_by word left) (set_by word right))) (sym (flat_map-append vars (triple_patterns left) (triple_patterns right)))
    (HoldsJust-or (set_by word left) (set_by word right) l r (holds_by word vars each left) (holds_by word vars each right))
holds_by word vars each (LeftJoin left right) =
    let l = flat_map vars (triple_patterns left) in
    let r = flat_map vars (triple_patterns right) in
    subst (HoldsJust (bit_or (set_by word left) (set_by word right))) (sym (flat_map-append vars (triple_patterns left) (triple_patterns right)))
    (HoldsJust-or (set_by word left) (set_by word right) l r (holds_by word vars each left) (holds_by word vars each right))

-- a place is a variable exactly where this is its variable
var_from_Contains : (place : Place) (var : ℕ) → Contains (place_vars place) var → IsVar place var
var_from_Contains (places.Var place) var at = Contains-single place.0 var at
var_from_Contains (places.Term text) var at = Contains-nil var at

pub Contains-from_var : (place : Place) (var : ℕ) → IsVar place var → Contains (place_vars place) var
Contains-from_var (places.Var place) var is = subst (Contains (place.0 ∷ [])) is (Contains-head place.0 [])
Contains-from_var (places.Term text) var is = absurd is

-- the set of the predicate places
predicates-exactly : (pattern : Algebra) (var : ℕ) → (bit_at (set_by predicate_set pattern) var ≡ 1) ↔ StandsAtPredicate pattern var
predicates-exactly pattern var =
    let holds = holds_by predicate_set predicate_vars (λ triple. HoldsJust-place triple.predicate) pattern in
    let list = triple_patterns pattern in (
      λ set.
          let from = source-flat_map predicate_vars list var ((holds var).0 set) in
          Any-from (λ triple. IsVar triple.predicate var) list from.0 from.1 (var_from_Contains from.0.predicate var from.2),
      λ stands. (holds var).1 (Contains-flat_map predicate_vars list stands.1 var (Contains-any (λ triple. IsVar triple.predicate var) list stands) (Contains-from_var stands.1.predicate var stands.4)),
    )

-- the set of the node places
nodes-exactly : (pattern : Algebra) (var : ℕ) → (bit_at (set_by node_set pattern) var ≡ 1) ↔ StandsAtNode pattern var
nodes-exactly pattern var =
    let each = λ (triple : TriplePat). HoldsJust-or (place_set triple.subject) (place_set triple.object) (place_vars triple.subject) (place_vars triple.object) (HoldsJust-place triple.subject) (HoldsJust-place triple.object) in
    let holds = holds_by node_set node_vars each pattern in
    let list = triple_patterns pattern in
    let Stands : TriplePat → Type 0 = λ triple. IsVar triple.subject var ⊎ IsVar triple.object var in (
      λ set.
          let from = source-flat_map node_vars list var ((holds var).0 set) in
          Any-from Stands list from.0 from.1 (elim (Contains-append_cases (place_vars from.0.subject) (place_vars from.0.object) var from.2) as (λ _. Stands from.0) [
            | inl at ↦ inl (var_from_Contains from.0.subject var at)
            | inr at ↦ inr (var_from_Contains from.0.object var at)
          ]),
      λ stands. (holds var).1 (Contains-flat_map node_vars list stands.1 var (Contains-any Stands list stands) (elim stands.4 as (λ _. Contains (node_vars stands.1) var) [
        | inl is ↦ Contains-append_left (place_vars stands.1.subject) (place_vars stands.1.object) var (Contains-from_var stands.1.subject var is)
        | inr is ↦ Contains-append_right (place_vars stands.1.subject) (place_vars stands.1.object) var (Contains-from_var stands.1.object var is)
      ])),
    )

-- the set of the predicate places is a word
fold-lt : (list : List TriplePat) (set : ℕ) → set < 2 ^ 64 → All TripleFits list → fold (λ set triple. bit_or set (predicate_set triple)) set list < 2 ^ 64
fold-lt [] set low fits = low
fold-lt (triple ∷ list) set low fits =
    fold-lt list (bit_or set (predicate_set triple)) (or_lt 64 set (predicate_set triple) low (place_set-lt triple.predicate (All-head TripleFits triple list fits).predicate)) (All-tail TripleFits triple list fits)

predicates-lt : (pattern : Algebra) → PatternFits pattern → set_by predicate_set pattern < 2 ^ 64
predicates-lt (Bgp list) fits = fold-lt list 0 (lit< tt) fits
predicates-lt (Join left right) fits = or_lt 64 (set_by predicate_set left) (set_by predicate_set right) (predicates-lt left fits.0) (predicates-lt right fits.1)
predicates-lt (LeftJoin left right) fits = or_lt 64 (set_by predicate_set left) (set_by predicate_set right) (predicates-lt left fits.0) (predicates-lt right fits.1)

-- the variables of both
abbrev pub both_set : Algebra → ℕ
both_set pattern = bit_and (set_by predicate_set pattern) (set_by node_set pattern)

module _ (pattern : Algebra) where
  both_from_bit : (var : ℕ) → bit_at (both_set pattern) var ≡ 1 → StandsAtPredicate pattern var × StandsAtNode pattern var
  both_from_bit var set =
      let p = set_by predicate_set pattern in
      let n = set_by node_set pattern in
      let is = bit_at_and p n var in (
        (predicates-exactly pattern var).0 (omega (arith, bit_at-lt p var, bit_at-lt n var)),
        (nodes-exactly pattern var).0 (omega (arith, bit_at-lt p var, bit_at-lt n var)),
      )

  bit_from_both : (var : ℕ) → StandsAtPredicate pattern var → StandsAtNode pattern var → bit_at (both_set pattern) var ≡ 1
  bit_from_both var predicate node =
      let p = (predicates-exactly pattern var).1 predicate in
      let n = (nodes-exactly pattern var).1 node in
      omega (arith, bit_at_and (set_by predicate_set pattern) (set_by node_set pattern) var)

  -- the set is empty where no variable stands at both
  pub none_from_zero : both_set pattern ≡ 0 → HasNoCrossPlace pattern
  none_from_zero empty var predicate node =
      let wrong : bit_at 0 var ≡ 1 = subst (λ set. bit_at set var ≡ 1) empty (bit_from_both var predicate node) in
      omega (arith, bit_at-zero var)

  -- and else its least variable is the least that does
  pub cross_from_set : PatternFits pattern → both_set pattern ≢ 0 → IsCrossPlace pattern (trailing_zeros w64 (both_set pattern))
  cross_from_set fits some =
      let set = both_set pattern in
      let low : set < 2 ^ 64 = omega (arith, and_le_l (set_by predicate_set pattern) (set_by node_set pattern), predicates-lt pattern fits) in
      let place = bit_at-trailing_zeros w64 set (omega arith) low in
      let both = both_from_bit (trailing_zeros w64 set) place.1 in
      record {
        predicate = both.0;
        node = both.1;
        least = λ other predicate node. elim (cases_lt other (trailing_zeros w64 set)) as (λ _. trailing_zeros w64 set ≤ other) [
          | inl less ↦ (let one = bit_from_both other predicate node in absurd (omega (arith, place.2 other less)))
          | inr not_less ↦ not_less
        ];
      }

  -- there is one at most
  pub one_cross : (var other : ℕ) → IsCrossPlace pattern var → IsCrossPlace pattern other → var ≡ other
  one_cross var other is so = let low = is.least other so.predicate so.node in let high = so.least var is.predicate is.node in omega arith

-- a variable that is told
pub same_var : (var other : Var) → var.0 ≡ other.0 → var ≡ other
same_var var other same = λ i. record { 0 = same i }
