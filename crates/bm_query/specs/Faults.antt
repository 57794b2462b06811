-- Why a query is not answered: its pattern is refused, or memory ran out.
use Rattle.well_designed.specs.declared.refusals.Refusal.{Refusal}
use Rattle.well_designed.specs.declared.refusals.Refusal.TheVariants as refusals
use Rattle.bm_query.specs.declared.fault.AnswerFault.{AnswerFault}
use Rattle.bm_query.specs.declared.fault.AnswerFault.TheVariants as faults

-- the fault of a query whose pattern is refused
abbrev pub fault_of : Refusal → AnswerFault
fault_of (refusals.NotWellDesigned optional var) = faults.NotWellDesigned optional var
fault_of (refusals.ThreePlaces pattern) = faults.ThreePlaces pattern
fault_of (refusals.CrossPlace var) = faults.CrossPlace var
