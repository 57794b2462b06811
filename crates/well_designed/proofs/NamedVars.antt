-- The variable that a refusal names occurs in the pattern.
use Rattle.std.proofs.Common.{◌<◌, ℕ, inl, inr, List, [], ◌++◌, flat_map, All, Contains, subst}
use Rattle.std.specs.Prelude.{slice_get}
use Rattle.std.proofs.lemmas.List.Elements.{All-append, All-cons, All-contains, All-nil, All-weaker, Contains-append_left, Contains-append_right, Contains-append_cases}
use Rattle.std.proofs.lemmas.Option.{slice_get_within, get_or_from_slice_get}
use Rattle.alg_model.specs.declared.pattern.TriplePat.{TriplePat}
use Rattle.alg_model.specs.Pattern.{Algebra, Bgp, Join, LeftJoin, HasVarsBelow, IsVar, place_vars, triple_patterns, triple_vars, vars_of, StandsAtPredicate}
use Rattle.alg_model.specs.WellDesigned.{OptionalPart, optionals_beside, optionals_of, IsOffender}
use Rattle.alg_model.proofs.Lists.{Contains-flat_map}
use Rattle.well_designed.specs.declared.refusals.Refusal.{Refusal}
use Rattle.well_designed.specs.declared.refusals.Refusal.TheVariants as refusals
use Rattle.well_designed.specs.Computed.{NamesBelow}
use Rattle.well_designed.specs.Refusals.{IsRefused}
use Rattle.well_designed.proofs.CrossPlaces.{Contains-from_var}
use Rattle.well_designed.proofs.LeastNumbers.{Contains-any}

-- what occurs in the right side of a part is among these
abbrev IsAmong : List ℕ → OptionalPart → Type 0
IsAmong vars part = (var : ℕ) → Contains (vars_of part.right) var → Contains vars var

-- the right side of each OPTIONAL has variables of the pattern
parts-among : (pattern : Algebra) (outside : List ℕ) → All (IsAmong (vars_of pattern)) (optionals_beside outside pattern)
parts-among (Bgp list) outside = All-nil (IsAmong (flat_map triple_vars list))
parts-among (Join left right) outside =
    let vars = vars_of left ++ vars_of right in
    All-append (IsAmong vars) (optionals_beside (outside ++ vars_of right) left) (optionals_beside (outside ++ vars_of left) right)
    (All-weaker (IsAmong (vars_of left)) (IsAmong vars) (λ part is var at. Contains-append_left (vars_of left) (vars_of right) var (is var at)) _ (parts-among left (outside ++ vars_of right)))
    (All-weaker (IsAmong (vars_of right)) (IsAmong vars) (λ part is var at. Contains-append_right (vars_of left) (vars_of right) var (is var at)) _ (parts-among right (outside ++ vars_of left)))
parts-among (LeftJoin left right) outside =
    let vars = vars_of left ++ vars_of right in
    All-append (IsAmong vars) (optionals_beside (outside ++ vars_of right) left) _
    (All-weaker (IsAmong (vars_of left)) (IsAmong vars) (λ part is var at. Contains-append_left (vars_of left) (vars_of right) var (is var at)) _ (parts-among left (outside ++ vars_of right)))
    (All-cons (IsAmong vars) _ _ (λ var at. Contains-append_right (vars_of left) (vars_of right) var at)
    (All-weaker (IsAmong (vars_of right)) (IsAmong vars) (λ part is var at. Contains-append_right (vars_of left) (vars_of right) var (is var at)) _ (parts-among right (outside ++ vars_of left))))

offender-occurs : (pattern : Algebra) (number var : ℕ) → IsOffender pattern number var → Contains (vars_of pattern) var
offender-occurs pattern number var is =
    let first = is.2 in
    let parts = optionals_of pattern in
    let among : IsAmong (vars_of pattern) first.part =
    subst (IsAmong (vars_of pattern)) (get_or_from_slice_get parts is.0 first.part first.part first.stands) (parts-among pattern [] is.0 first.part (slice_get_within parts is.0 first.part first.stands)) in
    among var first.offends.inside

-- the variables of a triple pattern are the pattern's
triple-occurs : (pattern : Algebra) (triple : TriplePat) (var : ℕ) → Contains (triple_patterns pattern) triple → Contains (triple_vars triple) var → Contains (vars_of pattern) var
triple-occurs (Bgp list) triple var there at = Contains-flat_map triple_vars list triple var there at
triple-occurs (Join left right) triple var there at =
    elim (Contains-append_cases (triple_patterns left) (triple_patterns right) triple there) as (λ _. Contains (vars_of left ++ vars_of right) var) [
      | inl here ↦ Contains-append_left (vars_of left) (vars_of right) var (triple-occurs left triple var here at)
      | inr here ↦ Contains-append_right (vars_of left) (vars_of right) var (triple-occurs right triple var here at)
    ]
triple-occurs (LeftJoin left right) triple var there at =
    elim (Contains-append_cases (triple_patterns left) (triple_patterns right) triple there) as (λ _. Contains (vars_of left ++ vars_of right) var) [
      | inl here ↦ Contains-append_left (vars_of left) (vars_of right) var (triple-occurs left triple var here at)
      | inr here ↦ Contains-append_right (vars_of left) (vars_of right) var (triple-occurs right triple var here at)
    ]

predicate-occurs : (pattern : Algebra) (var : ℕ) → StandsAtPredicate pattern var → Contains (vars_of pattern) var
predicate-occurs pattern var stands =
    let triple = stands.1 in
    let front = place_vars triple.subject ++ place_vars triple.predicate in
    triple-occurs pattern triple var (Contains-any (λ triple. IsVar triple.predicate var) (triple_patterns pattern) stands)
    (Contains-append_left front (place_vars triple.object) var (Contains-append_right (place_vars triple.subject) (place_vars triple.predicate) var (Contains-from_var triple.predicate var stands.4)))

-- so it is below n where all variables are
pub refused-below : (n : ℕ) (pattern : Algebra) (refusal : Refusal) → HasVarsBelow n pattern → IsRefused pattern refusal → NamesBelow n refusal
refused-below n pattern (refusals.NotWellDesigned optional var) below is =
    All-contains (λ var. var < n) (vars_of pattern) var.0 below (offender-occurs pattern optional var.0 is)
refused-below n pattern (refusals.ThreePlaces number) below is = tt
refused-below n pattern (refusals.CrossPlace var) below is =
    All-contains (λ var. var < n) (vars_of pattern) var.0 below (predicate-occurs pattern var.0 is.2.predicate)
