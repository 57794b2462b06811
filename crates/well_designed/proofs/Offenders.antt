-- An offender refutes that the pattern is well designed, there is one at most, and the test answers it.
use Rattle.std.proofs.Common.{◌≡◌, ℕ, inl, inr, Option, Some, None, Result, Err, sym, ap, subst, arith}
use Rattle.std.specs.Prelude.{slice_get}
use Rattle.std.proofs.lemmas.Bool.{cases_lt}
use Rattle.std.proofs.lemmas.Option.{slice_get_within, get_or_from_slice_get}
use Rattle.alg_model.specs.Pattern.{Algebra}
use Rattle.alg_model.specs.WellDesigned.{OptionalPart, optionals_of, IsFine, Offends, IsOffender, IsWellDesigned}
use Rattle.well_designed.specs.declared.design.NotWellDesigned.{NotWellDesigned}
use Rattle.well_designed.proofs.Verdicts.{IsVerdict, not_offended, verdict-fine, verdict-offender}

-- a part that stands in a list of fine ones is fine
fine_there : (pattern : Algebra) (place : ℕ) (part : OptionalPart) → IsWellDesigned pattern → slice_get (optionals_of pattern) place ≡ Some part → IsFine part
fine_there pattern place part fine stands =
    let parts = optionals_of pattern in
    subst IsFine (get_or_from_slice_get parts place part part stands) (fine place part (slice_get_within parts place part stands))

-- an offender refutes
pub not_well_designed : (pattern : Algebra) (number var : ℕ) → IsOffender pattern number var → ¬ IsWellDesigned pattern
not_well_designed pattern number var is fine =
    let first = is.2 in
    not_offended first.part var (fine_there pattern is.0 first.part fine first.stands) first.offends

-- there is one at most
pub one_offender : (pattern : Algebra) (number var other w : ℕ) → IsOffender pattern number var → IsOffender pattern other w → (number ≡ other) × (var ≡ w)
one_offender pattern number var other w is so =
    let a = is.2 in
    let b = so.2 in
    elim (cases_lt is.0 so.0) as (λ _. (number ≡ other) × (var ≡ w)) [
      | inl less ↦ absurd (not_offended a.part var (b.first is.0 a.part less a.stands) a.offends)
      | inr not_less ↦ elim (cases_lt so.0 is.0) as (λ _. (number ≡ other) × (var ≡ w)) [
        | inl less ↦ absurd (not_offended b.part w (a.first so.0 b.part less b.stands) b.offends)
        | inr not_more ↦
            let place : is.0 ≡ so.0 = omega arith in
            let same : a.part ≡ b.part = (let first = a.stands in let second = subst (λ k. slice_get (optionals_of pattern) k ≡ Some b.part) (sym place) b.stands in cc) in
            let var_low = a.least w (subst (λ part. Offends part w) (sym same) b.offends) in
            let w_low = b.least var (subst (λ part. Offends part var) same a.offends) in
            ((let first = is.1 in let second = so.1 in omega arith), omega arith)
      ]
    ]

-- no fault: the pattern is well designed
pub fine-verdict : (pattern : Algebra) (answer : Option NotWellDesigned) → IsVerdict 1 (optionals_of pattern) answer → answer ≡ None → IsWellDesigned pattern
fine-verdict pattern answer h is = verdict-fine (optionals_of pattern) 1 (subst (IsVerdict 1 (optionals_of pattern)) is h)

-- a fault: it is the offender
pub offender-verdict : (pattern : Algebra) (answer : Option NotWellDesigned) (e : NotWellDesigned) → IsVerdict 1 (optionals_of pattern) answer → answer ≡ Some e → IsOffender pattern e.optional e.var.0
offender-verdict pattern answer e h is = verdict-offender (optionals_of pattern) 1 e (subst (IsVerdict 1 (optionals_of pattern)) is h)

-- faults of one OPTIONAL and one variable are one
same_fault : (e other : NotWellDesigned) → e.optional ≡ other.optional → e.var.0 ≡ other.var.0 → e ≡ other
same_fault e other number var = λ i. record { optional = number i; var = record { 0 = var i } }

-- a fault as the answer of the test
abbrev fail : NotWellDesigned → Result (Unit {0}) NotWellDesigned
fail e = Err e

-- the offender is that of the answer, and of no other
pub offender_along : (pattern : Algebra) (e other : NotWellDesigned) → fail e ≡ fail other → IsOffender pattern e.optional e.var.0 → IsOffender pattern other.optional other.var.0
offender_along pattern e other is offender = let same : e ≡ other = cc in subst (λ e. IsOffender pattern e.optional e.var.0) same offender

pub offender_one : (pattern : Algebra) (e other : NotWellDesigned) → IsOffender pattern e.optional e.var.0 → IsOffender pattern other.optional other.var.0 → fail e ≡ fail other
offender_one pattern e other is so =
    let one = one_offender pattern e.optional e.var.0 other.optional other.var.0 is so in
    ap fail (same_fault e other one.0 one.1)
