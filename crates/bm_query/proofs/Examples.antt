-- Worked examples.
use Rattle.std.proofs.Common.{◌≡◌, refl}
use Rattle.alg_model.specs.declared.var.Var.{Var}
use Rattle.well_designed.specs.declared.refusals.Refusal.TheVariants as refusals
use Rattle.bm_query.specs.declared.fault.AnswerFault.TheVariants as faults
use Rattle.bm_query.specs.Faults.{fault_of}

-- a refusal is told as it is
a_refusal_is_told : fault_of (refusals.ThreePlaces 2) ≡ faults.ThreePlaces 2
a_refusal_is_told = refl

its_variable_is_told : (var : Var) → fault_of (refusals.NotWellDesigned 1 var) ≡ faults.NotWellDesigned 1 var
its_variable_is_told var = refl
