-- The refusal that is computed of a pattern is the one that it has.
use Rattle.std.proofs.Common.{◌≡◌, ◌↔◌, ℕ, Bool, Option, Some, None, true, false, ◌==◌, if◌then◌else◌, refl, subst}
use Rattle.std.specs.Int.{w64, trailing_zeros}
use Rattle.std.proofs.lemmas.Bool.{eqb-true, eqb-false}
use Rattle.alg_model.specs.declared.var.Var.{Var}
use Rattle.alg_model.specs.Pattern.{Algebra}
use Rattle.alg_model.specs.VarSet.{PatternFits}
use Rattle.well_designed.specs.declared.design.NotWellDesigned.{NotWellDesigned}
use Rattle.well_designed.specs.declared.refusals.Refusal.{Refusal}
use Rattle.well_designed.specs.declared.refusals.Refusal.TheVariants as refusals
use Rattle.well_designed.specs.Computed.{cross_in, fault_in, first_cause, refusal_in}
use Rattle.well_designed.specs.Places.{pattern_number}
use Rattle.well_designed.specs.Refusals.{HasNoCrossPlace, IsAccepted, IsCrossPlace, IsRefused}
use Rattle.well_designed.proofs.CrossPlaces.{both_set, cross_from_set, none_from_zero}
use Rattle.well_designed.proofs.LeastNumbers.{three_places-least, three_places-none}
use Rattle.well_designed.proofs.Offenders.{fine-verdict, offender-verdict}
use Rattle.well_designed.proofs.Refusing.{accepted_not_refused, refused_exactly}
use Rattle.well_designed.proofs.Sides.{test-verdict}

module _ (pattern : Algebra) (fits : PatternFits pattern) where
  -- what the test of the set gives
  abbrev chosen : Bool → Option Var
  chosen empty = if empty then None else Some (record { 0 = trailing_zeros w64 (both_set pattern) })

  -- where no variable is computed, none is at both kinds of place
  cross-none : (empty : Bool) → (both_set pattern == 0) ≡ empty → chosen empty ≡ None → HasNoCrossPlace pattern
  cross-none true zero is = none_from_zero pattern (eqb-true (both_set pattern) 0 zero)
  cross-none false some is = absurd (cc)

  -- and one that is computed is the least that is
  cross-some : (empty : Bool) → (both_set pattern == 0) ≡ empty → (var : Var) → chosen empty ≡ Some var → IsCrossPlace pattern var.0
  cross-some true zero var is = absurd (cc)
  cross-some false some var is =
      let same : trailing_zeros w64 (both_set pattern) ≡ var.0 = cc in
      subst (IsCrossPlace pattern) same (cross_from_set pattern fits (eqb-false (both_set pattern) 0 some))

  -- what is known of the first cause
  abbrev Is : Option Refusal → Type 0
  Is None = IsAccepted pattern
  Is (Some refusal) = IsRefused pattern refusal

  first_cause-is : (fault : Option NotWellDesigned) (number : Option ℕ) (var : Option Var) →
      fault_in pattern ≡ fault → pattern_number pattern ≡ number → cross_in pattern ≡ var → Is (first_cause fault number var)
  first_cause-is (Some fault) number var f n v = offender-verdict pattern (fault_in pattern) fault (test-verdict pattern fits) f
  first_cause-is None (Some number) var f n v =
      (fine-verdict pattern (fault_in pattern) (test-verdict pattern fits) f, (three_places-least pattern (pattern_number pattern) refl number).0 n)
  first_cause-is None None (Some var) f n v = (
    fine-verdict pattern (fault_in pattern) (test-verdict pattern fits) f,
    (three_places-none pattern (pattern_number pattern) refl).0 (rw n refl),
    cross-some (both_set pattern == 0) refl var v,
  )
  first_cause-is None None None f n v = record {
    well_designed = fine-verdict pattern (fault_in pattern) (test-verdict pattern fits) f;
    no_three_places = (three_places-none pattern (pattern_number pattern) refl).0 (rw n refl);
    no_cross_place = cross-none (both_set pattern == 0) refl v;
  }

  refusal_in-is : Is (refusal_in pattern)
  unfolding refusal_in
  refusal_in-is = first_cause-is (fault_in pattern) (pattern_number pattern) (cross_in pattern) refl refl refl

  told : (computed : Option Refusal) → Is computed → (refusal : Refusal) → (computed ≡ Some refusal) ↔ IsRefused pattern refusal
  told None is refusal = (λ wrong. absurd (cc), λ refused. absurd (accepted_not_refused pattern is refusal refused))
  told (Some met) is refusal = refused_exactly pattern met is refusal

  told_none : (computed : Option Refusal) → Is computed → (computed ≡ None) ↔ IsAccepted pattern
  told_none None is = (λ _. is, λ _. refl)
  told_none (Some met) is = (λ wrong. absurd (cc), λ accepted. absurd (accepted_not_refused pattern accepted met is))

  -- it is refused exactly so, and it is accepted exactly where there is none
  pub refusal_in-refused : (refusal : Refusal) → (refusal_in pattern ≡ Some refusal) ↔ IsRefused pattern refusal
  refusal_in-refused = told (refusal_in pattern) refusal_in-is

  pub refusal_in-accepted : (refusal_in pattern ≡ None) ↔ IsAccepted pattern
  refusal_in-accepted = told_none (refusal_in pattern) refusal_in-is
