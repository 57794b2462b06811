-- Carries proofs only: why a pattern is refused, as a function.
use Rattle.std.specs.Prelude.{ℕ, ◌<◌, false, true, ◌==◌, if◌then◌else◌, Option, Some, None}
use Rattle.std.specs.Int.{w64, trailing_zeros}
use Rattle.std.specs.Int.Bits.{bit_and}
use Rattle.alg_model.specs.declared.var.Var.{Var}
use Rattle.alg_model.specs.Pattern.{Algebra}
use Rattle.well_designed.specs.declared.design.NotWellDesigned.{NotWellDesigned}
use Rattle.well_designed.specs.declared.refusals.Refusal.{Refusal}
use Rattle.well_designed.specs.declared.refusals.Refusal.TheVariants as refusals
use Rattle.well_designed.specs.Places.{node_set, pattern_number, predicate_set, set_by}
use Rattle.well_designed.specs.Walk.{earlier, fault_beside}

-- the first OPTIONAL that fails
abbrev pub fault_in : Algebra → Option NotWellDesigned
fault_in pattern = earlier (fault_beside false true 0 0 pattern) (fault_beside true false 0 0 pattern)

-- the least variable of a set, if there is one
abbrev pub least_var : ℕ → Option Var
least_var set = if set == 0 then None else Some (record { 0 = trailing_zeros w64 set })

-- the least variable at a predicate place and at a node place
abbrev pub cross_in : Algebra → Option Var
cross_in pattern = least_var (bit_and (set_by predicate_set pattern) (set_by node_set pattern))

-- the first of three causes that may be there
abbrev pub first_cause : Option NotWellDesigned → Option ℕ → Option Var → Option Refusal
first_cause (Some fault) number var = Some (refusals.NotWellDesigned fault.optional fault.var)
first_cause None (Some number) var = Some (refusals.ThreePlaces number)
first_cause None None (Some var) = Some (refusals.CrossPlace var)
first_cause None None None = None

unfoldable pub refusal_in : Algebra → Option Refusal
refusal_in pattern = first_cause (fault_in pattern) (pattern_number pattern) (cross_in pattern)

-- the variable that a refusal names, if it names one, is below n
abbrev pub NamesBelow : ℕ → Refusal → Type 0
NamesBelow n (refusals.NotWellDesigned optional var) = var.0 < n
NamesBelow n (refusals.ThreePlaces number) = Unit {0}
NamesBelow n (refusals.CrossPlace var) = var.0 < n
