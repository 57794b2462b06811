use Rattle.std.proofs.Common.{refl}
use Rattle.alg_model.specs.Pattern.{algebra_of}
use Rattle.alg_model.proofs.VarSets.{pattern_fits}
use Rattle.well_designed.proofs.Sides.{answered}
use Rattle.well_designed.proofs.Offenders.{not_well_designed, offender_along, offender_one, fine-verdict, offender-verdict}
use Rattle.well_designed.proofs.design.test.Goals as goal

pub walk_on-onward-requires-clause-fits : goal.walk_on-onward-requires-clause-fits
walk_on-onward-requires-clause-fits c = pattern_fits (algebra_of c.args.pattern.now) c.requires.vars_below

pub walk_back-backward-requires-clause-fits : goal.walk_back-backward-requires-clause-fits
walk_back-backward-requires-clause-fits c = pattern_fits (algebra_of c.args.pattern.now) c.requires.vars_below

pub returns-in-Some-clause-well_designed : goal.returns-in-Some-clause-well_designed
returns-in-Some-clause-well_designed c =
    let pattern = algebra_of c.args.pattern.now in
    let verdict = answered pattern (pattern_fits pattern c.requires.vars_below) c.walk_on-onward.result.fault c.walk_back-backward.result.fault c.earlier.result c.walk_on-onward.result.optionals
    c.walk_on-onward.ensures.fault c.walk_back-backward.ensures.fault c.walk_on-onward.ensures.optionals c.earlier.ensures in
    let offender = offender-verdict pattern c.earlier.result c.in-Some.fault verdict c.in-Some.is in
    (λ wrong. absurd (cc), λ fine. absurd (not_well_designed pattern c.in-Some.fault.optional c.in-Some.fault.var.0 offender fine))

pub returns-in-Some-clause-offender : goal.returns-in-Some-clause-offender
returns-in-Some-clause-offender c =
    let pattern = algebra_of c.args.pattern.now in
    let verdict = answered pattern (pattern_fits pattern c.requires.vars_below) c.walk_on-onward.result.fault c.walk_back-backward.result.fault c.earlier.result c.walk_on-onward.result.optionals
    c.walk_on-onward.ensures.fault c.walk_back-backward.ensures.fault c.walk_on-onward.ensures.optionals c.earlier.ensures in
    let offender = offender-verdict pattern c.earlier.result c.in-Some.fault verdict c.in-Some.is in
    λ fault. (
      λ is. offender_along pattern c.in-Some.fault fault is offender,
      λ other. offender_one pattern c.in-Some.fault fault offender other,
    )

pub returns-in-None-clause-well_designed : goal.returns-in-None-clause-well_designed
returns-in-None-clause-well_designed c =
    let pattern = algebra_of c.args.pattern.now in
    let verdict = answered pattern (pattern_fits pattern c.requires.vars_below) c.walk_on-onward.result.fault c.walk_back-backward.result.fault c.earlier.result c.walk_on-onward.result.optionals
    c.walk_on-onward.ensures.fault c.walk_back-backward.ensures.fault c.walk_on-onward.ensures.optionals c.earlier.ensures in
    let fine = fine-verdict pattern c.earlier.result verdict c.in-None.is in
    (λ _. fine, λ _. refl)

pub returns-in-None-clause-offender : goal.returns-in-None-clause-offender
returns-in-None-clause-offender c =
    let pattern = algebra_of c.args.pattern.now in
    let verdict = answered pattern (pattern_fits pattern c.requires.vars_below) c.walk_on-onward.result.fault c.walk_back-backward.result.fault c.earlier.result c.walk_on-onward.result.optionals
    c.walk_on-onward.ensures.fault c.walk_back-backward.ensures.fault c.walk_on-onward.ensures.optionals c.earlier.ensures in
    let fine = fine-verdict pattern c.earlier.result verdict c.in-None.is in
    λ fault. (λ is. absurd (cc), λ other. absurd (not_well_designed pattern fault.optional fault.var.0 other fine))
