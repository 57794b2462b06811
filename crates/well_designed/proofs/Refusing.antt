-- A pattern is refused in one way at most, and not where it is accepted.
use Rattle.std.proofs.Common.{◌≡◌, ◌↔◌, ℕ, Some, ◌∙◌, ap, subst}
use Rattle.std.proofs.lemmas.List.Elements.{All-contains}
use Rattle.alg_model.specs.Pattern.{Algebra, triple_patterns}
use Rattle.well_designed.specs.declared.refusals.Refusal.{Refusal}
use Rattle.well_designed.specs.declared.refusals.Refusal.TheVariants as refusals
use Rattle.well_designed.specs.Refusals.{HasThreeVariables, IsThreePlaces, HasNoThreePlaces, IsRefused, IsAccepted}
use Rattle.well_designed.proofs.LeastNumbers.{Contains-any, one_three}
use Rattle.well_designed.proofs.CrossPlaces.{one_cross, same_var}
use Rattle.well_designed.proofs.Offenders.{not_well_designed, one_offender}

module _ (pattern : Algebra) where
  -- a number of a triple pattern with three variables, where there is none
  no_three : (number : ℕ) → IsThreePlaces pattern number → ¬ HasNoThreePlaces pattern
  no_three number is none_three =
      All-contains (λ triple. ¬ HasThreeVariables triple) (triple_patterns pattern) is.stands.1 none_three (Contains-any (λ triple. HasThreeVariables triple × (triple.number ≡ number)) (triple_patterns pattern) is.stands) is.stands.4.0

  -- two ways in which it is refused are one
  one_refusal : (a b : Refusal) → IsRefused pattern a → IsRefused pattern b → a ≡ b
  one_refusal (refusals.NotWellDesigned optional var) (refusals.NotWellDesigned other w) ha hb =
      let one = one_offender pattern optional var.0 other w.0 ha hb in
      ap (λ number. refusals.NotWellDesigned number var) one.0 ∙ ap (refusals.NotWellDesigned other) (same_var var w one.1)
  one_refusal (refusals.NotWellDesigned optional var) (refusals.ThreePlaces number) ha hb = absurd (not_well_designed pattern optional var.0 ha hb.0)
  one_refusal (refusals.NotWellDesigned optional var) (refusals.CrossPlace w) ha hb = absurd (not_well_designed pattern optional var.0 ha hb.0)
  one_refusal (refusals.ThreePlaces number) (refusals.NotWellDesigned other w) ha hb = absurd (not_well_designed pattern other w.0 hb ha.0)
  one_refusal (refusals.ThreePlaces number) (refusals.ThreePlaces other) ha hb = ap refusals.ThreePlaces (one_three pattern number other ha.1 hb.1)
  one_refusal (refusals.ThreePlaces number) (refusals.CrossPlace w) ha hb = absurd (no_three number ha.1 hb.1)
  one_refusal (refusals.CrossPlace var) (refusals.NotWellDesigned other w) ha hb = absurd (not_well_designed pattern other w.0 hb ha.0)
  one_refusal (refusals.CrossPlace var) (refusals.ThreePlaces other) ha hb = absurd (no_three other hb.1 ha.1)
  one_refusal (refusals.CrossPlace var) (refusals.CrossPlace w) ha hb = ap refusals.CrossPlace (same_var var w (one_cross pattern var.0 w.0 ha.2 hb.2))

  -- a pattern that is accepted is refused in no way
  pub accepted_not_refused : IsAccepted pattern → (a : Refusal) → ¬ IsRefused pattern a
  accepted_not_refused is (refusals.NotWellDesigned optional var) h = not_well_designed pattern optional var.0 h is.well_designed
  accepted_not_refused is (refusals.ThreePlaces number) h = no_three number h.1 is.no_three_places
  accepted_not_refused is (refusals.CrossPlace var) h = is.no_cross_place var.0 h.2.predicate h.2.node

  -- so one answer is told exactly
  pub refused_exactly : (a : Refusal) → IsRefused pattern a → (b : Refusal) → (Some a ≡ Some b) ↔ IsRefused pattern b
  refused_exactly a ha b = (
    λ is. (let same : a ≡ b = cc in subst (IsRefused pattern) same ha),
    λ hb. ap Some (one_refusal a b ha hb),
  )
