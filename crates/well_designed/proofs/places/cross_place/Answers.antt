use Rattle.std.proofs.Common.{◌≡◌, ℕ, Some, bit_and, w64, refl, sym, ◌∙◌, ap, subst}
use Rattle.std.specs.Int.{trailing_zeros}
use Rattle.alg_model.specs.declared.var.Var.{Var}
use Rattle.alg_model.specs.Pattern.{Algebra, algebra_of}
use Rattle.alg_model.proofs.VarSets.{pattern_fits}
use Rattle.well_designed.specs.Places.{predicate_set, node_set, set_by}
use Rattle.well_designed.specs.Refusals.{IsCrossPlace}
use Rattle.well_designed.proofs.CrossPlaces.{both_set, none_from_zero, cross_from_set, one_cross, same_var}
use Rattle.well_designed.proofs.places.cross_place.Goals as goal

-- the variable with a number
abbrev record_of : ℕ → Var
record_of var = record { 0 = var }

-- the set that is tested
tested : (pattern : Algebra) (predicates nodes : ℕ) → predicates ≡ set_by predicate_set pattern → nodes ≡ set_by node_set pattern → bit_and predicates nodes ≡ both_set pattern
tested pattern predicates nodes p n = ap (λ set. bit_and set nodes) p ∙ ap (bit_and (set_by predicate_set pattern)) n

pub places_of-places-requires : goal.places_of-places-requires
places_of-places-requires c = pattern_fits (algebra_of c.args.pattern.now) c.requires

pub returns-then-both-eq0-clause-none : goal.returns-then-both-eq0-clause-none
returns-then-both-eq0-clause-none c =
    let pattern = algebra_of c.args.pattern.now in
    let is = tested pattern c.places_of-places.result.predicates c.places_of-places.result.nodes c.places_of-places.ensures.predicates c.places_of-places.ensures.nodes in
    (λ _. none_from_zero pattern (sym is ∙ c.if-both-eq0.true), λ _. refl)

pub returns-then-both-eq0-clause-least : goal.returns-then-both-eq0-clause-least
returns-then-both-eq0-clause-least c =
    let pattern = algebra_of c.args.pattern.now in
    let is = tested pattern c.places_of-places.result.predicates c.places_of-places.result.nodes c.places_of-places.ensures.predicates c.places_of-places.ensures.nodes in
    let nothing = none_from_zero pattern (sym is ∙ c.if-both-eq0.true) in
    λ var. (λ wrong. absurd (cc), λ cross. absurd (nothing var.0 cross.predicate cross.node))

pub returns-else-both-eq0-clause-none : goal.returns-else-both-eq0-clause-none
returns-else-both-eq0-clause-none c =
    let pattern = algebra_of c.args.pattern.now in
    let is = tested pattern c.places_of-places.result.predicates c.places_of-places.result.nodes c.places_of-places.ensures.predicates c.places_of-places.ensures.nodes in
    let cross = cross_from_set pattern (pattern_fits pattern c.requires) (λ zero. c.if-both-eq0.false (is ∙ zero)) in
    (λ wrong. absurd (cc), λ nothing. absurd (nothing _ cross.predicate cross.node))

pub returns-else-both-eq0-clause-least : goal.returns-else-both-eq0-clause-least
returns-else-both-eq0-clause-least c =
    let pattern = algebra_of c.args.pattern.now in
    let is = tested pattern c.places_of-places.result.predicates c.places_of-places.result.nodes c.places_of-places.ensures.predicates c.places_of-places.ensures.nodes in
    let cross = cross_from_set pattern (pattern_fits pattern c.requires) (λ zero. c.if-both-eq0.false (is ∙ zero)) in
    let first = record_of (trailing_zeros w64 (both_set pattern)) in
    rw is (λ var. (
      λ told. (let same : first ≡ var = cc in subst (λ var. IsCrossPlace pattern var.0) same cross),
      λ other. ap Some (same_var first var (one_cross pattern first.0 var.0 cross other)),
    ))
