-- What the two walks of the test answer. It carries proofs, and nothing public rests on it.
use Rattle.std.specs.Prelude.{ℕ, ◌+◌, ◌-◌, ◌==◌, nat_lt, Bool, if◌then◌else◌, Option, Some, None}
use Rattle.std.specs.Int.{w64, bit_not, trailing_zeros}
use Rattle.std.specs.Int.Bits.{bit_and, bit_or}
use Rattle.std.specs.Option.{option_or}
use Rattle.alg_model.specs.Pattern.{Algebra, Bgp, Join, LeftJoin, optional_parts}
use Rattle.alg_model.specs.VarSet.{pattern_set}
use Rattle.well_designed.specs.declared.design.NotWellDesigned.{NotWellDesigned}

-- the fault of the OPTIONAL with a number, where the variables of this set offend there
abbrev pub own_fault : ℕ → ℕ → Option NotWellDesigned
own_fault number offending = if offending == 0 then None else Some (record { optional = number; var = record { 0 = trailing_zeros w64 offending } })

-- the variables of the right side and of those that were met, without those of the left side
abbrev pub offending : Algebra → Algebra → ℕ → ℕ
offending left right met = bit_and (bit_and (pattern_set right) (bit_not w64 (pattern_set left))) met

-- a set with the variables of a part, where they count
abbrev pub with_set : Bool → ℕ → Algebra → ℕ
with_set counts met part = if counts then bit_or met (pattern_set part) else met

-- The first fault of a part against the variables that stand beside it: after it, before it, or both. So many
-- OPTIONALs stand before the part.
abbrev pub fault_beside : Bool → Bool → ℕ → ℕ → Algebra → Option NotWellDesigned
fault_beside after before met number (Bgp list) = None
fault_beside after before met number (Join left right) =
    option_or (fault_beside after before (with_set after met right) number left)
    (fault_beside after before (with_set before met left) (number + optional_parts left) right)
fault_beside after before met number (LeftJoin left right) =
    option_or
    (option_or (fault_beside after before (with_set after met right) number left) (own_fault (number + optional_parts left + 1) (offending left right met)))
    (fault_beside after before (with_set before met left) (number + optional_parts left + 1) right)

-- against those that stand after it, where so many OPTIONALs stand before its end
abbrev pub backward : ℕ → ℕ → Algebra → Option NotWellDesigned
backward met end (Bgp list) = None
backward met end (Join left right) =
    option_or (backward (bit_or met (pattern_set right)) (end - optional_parts right) left) (backward met end right)
backward met end (LeftJoin left right) =
    let number = end - optional_parts right in
    option_or (option_or (backward (bit_or met (pattern_set right)) (number - 1) left) (own_fault number (offending left right met))) (backward met end right)

-- the fault is that of an earlier OPTIONAL, or of the same and of a lesser variable
abbrev pub comes_before : NotWellDesigned → NotWellDesigned → Bool
comes_before fault other = if fault.optional == other.optional then nat_lt fault.var.0 other.var.0 else nat_lt fault.optional other.optional

-- the first of two faults
abbrev pub earlier : Option NotWellDesigned → Option NotWellDesigned → Option NotWellDesigned
earlier (Some fault) (Some other) = if comes_before other fault then Some other else Some fault
earlier (Some fault) None = Some fault
earlier None other = other
