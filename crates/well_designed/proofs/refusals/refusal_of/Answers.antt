use Rattle.std.proofs.Common.{refl}
use Rattle.alg_model.specs.Pattern.{algebra_of}
use Rattle.well_designed.specs.declared.refusals.Refusal.TheVariants as refusals
use Rattle.well_designed.specs.Refusals.{IsAccepted}
use Rattle.well_designed.proofs.Refusing.{accepted_not_refused, refused_exactly}
use Rattle.well_designed.proofs.refusals.refusal_of.Goals as goal

pub returns-in-Err-clause-exactly : goal.returns-in-Err-clause-exactly
returns-in-Err-clause-exactly c =
    refused_exactly (algebra_of c.args.pattern.now) (refusals.NotWellDesigned c.in-Err.fault.optional c.in-Err.fault.var) ((c.in-Err.ensures.offender c.in-Err.fault).0 refl)

pub returns-in-Some-clause-exactly : goal.returns-in-Some-clause-exactly
returns-in-Some-clause-exactly c =
    refused_exactly (algebra_of c.args.pattern.now) (refusals.ThreePlaces c.in-Some.number) (c.in-Ok.ensures.well_designed.0 refl, (c.in-Some.ensures.least c.in-Some.number).0 refl)

pub returns-in-Some-cross_place-clause-exactly : goal.returns-in-Some-cross_place-clause-exactly
returns-in-Some-cross_place-clause-exactly c =
    refused_exactly (algebra_of c.args.pattern.now) (refusals.CrossPlace c.in-Some-cross_place.var)
    (c.in-Ok.ensures.well_designed.0 refl, c.in-None.ensures.none.0 refl, (c.in-Some-cross_place.ensures.least c.in-Some-cross_place.var).0 refl)

pub returns-in-None-cross_place-clause-accepted : goal.returns-in-None-cross_place-clause-accepted
returns-in-None-cross_place-clause-accepted c =
    (λ _. record { well_designed = c.in-Ok.ensures.well_designed.0 refl; no_three_places = c.in-None.ensures.none.0 refl; no_cross_place = c.in-None-cross_place.ensures.none.0 refl }, λ _. refl)

pub returns-in-None-cross_place-clause-exactly : goal.returns-in-None-cross_place-clause-exactly
returns-in-None-cross_place-clause-exactly c =
    let pattern = algebra_of c.args.pattern.now in
    let accepted : IsAccepted pattern = record { well_designed = c.in-Ok.ensures.well_designed.0 refl; no_three_places = c.in-None.ensures.none.0 refl; no_cross_place = c.in-None-cross_place.ensures.none.0 refl } in
    λ refusal. (λ wrong. absurd (cc), λ refused. absurd (accepted_not_refused pattern accepted refusal refused))
