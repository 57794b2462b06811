-- The walks answer of the OPTIONALs of a pattern what fails against the variables before them, and against those after
-- them; both together are the test.
use Rattle.std.proofs.Common.{◌≡◌, ◌≢◌, ◌↔◌, ◌⊎◌, ℕ, ◌+◌, ◌-◌, ◌<◌, ◌≤◌, ◌^◌, ◌==◌, min, inl, inr, Bool, true, false, if◌then◌else◌, List, [], ◌∷◌, ◌++◌, length, Option, Some, None, Contains, bit_and, bit_or, w64, refl, sym, ◌∙◌, ap, subst, arith, eqb-true, append-nil}
use Rattle.std.specs.Int.{bit_at, bit_not, trailing_zeros}
use Rattle.std.specs.Option.{option_or}
use Rattle.std.proofs.lemmas.Bool.{cases_lt, cases_eq, eqb-false}
use Rattle.std.proofs.lemmas.List.{length-append}
use Rattle.std.proofs.lemmas.List.Elements.{Contains-append_left, Contains-append_right, Contains-append_cases}
use Rattle.std.proofs.lemmas.Nat.{and_le_l}
use Rattle.std.proofs.lemmas.Nat.Bits.{bit_at-zero, bit_at-lt, bit_at_above, bit_at_and, bit_at_not, bit_at-trailing_zeros}
use Rattle.bm_term.proofs.Elements.{Contains-nil}
use Rattle.alg_model.specs.Pattern.{Algebra, Bgp, Join, LeftJoin, vars_of, optional_parts}
use Rattle.alg_model.specs.VarSet.{HoldsJust, pattern_set, PatternFits}
use Rattle.alg_model.specs.WellDesigned.{OptionalPart, optionals_beside, optionals_of, IsFine, Offends}
use Rattle.alg_model.proofs.VarSets.{HoldsJust-nil, HoldsJust-or, HoldsJust-pattern, pattern_set-lt}
use Rattle.well_designed.specs.declared.design.NotWellDesigned.{NotWellDesigned}
use Rattle.well_designed.specs.Walk.{own_fault, offending, with_set, fault_beside, backward, earlier}
use Rattle.well_designed.proofs.Verdicts.{fault, IsLeastOffence, IsVerdict, IsBoth, AreBoth, none, more, AreBoth-append, verdict-append, verdict-both}

-- ---- one OPTIONAL

module _ (left right : Algebra) (fits_left : PatternFits left) (fits_right : PatternFits right) (met : ℕ) (outside : List ℕ) (holds : HoldsJust met outside) where
  abbrev part : OptionalPart
  part = record { left = left; right = right; outside = outside }

  -- the set of what offends, bit by bit
  bits : (v : ℕ) → bit_at (offending left right met) v ≡ min (min (bit_at (pattern_set right) v) (bit_at (bit_not w64 (pattern_set left)) v)) (bit_at met v)
  bits v =
      let both = bit_at_and (pattern_set right) (bit_not w64 (pattern_set left)) v in
      let all = bit_at_and (bit_and (pattern_set right) (bit_not w64 (pattern_set left))) met v in
      all ∙ ap (λ b. min b (bit_at met v)) both

  -- a variable of the right side is one of the 64
  right_low : (v : ℕ) → bit_at (pattern_set right) v ≡ 1 → v < 64
  right_low v set = elim (cases_lt v 64) as (λ _. v < 64) [
    | inl low ↦ low
    | inr high ↦ absurd (omega (arith, bit_at_above (pattern_set right) 64 v (pattern_set-lt right fits_right) high))
  ]

  -- a variable of the set offends
  offends_from_bit : (v : ℕ) → bit_at (offending left right met) v ≡ 1 → Offends part v
  offends_from_bit v set =
      let is = bits v in
      let r : bit_at (pattern_set right) v ≡ 1 = omega (arith, bit_at-lt (pattern_set right) v) in
      let n : bit_at (bit_not w64 (pattern_set left)) v ≡ 1 = omega (arith, bit_at-lt (bit_not w64 (pattern_set left)) v) in
      let m : bit_at met v ≡ 1 = omega (arith, bit_at-lt met v) in
      let turned = bit_at_not w64 (pattern_set left) v (pattern_set-lt left fits_left) (right_low v r) in
      record {
        inside = (HoldsJust-pattern right v).0 r;
        outside = (holds v).0 m;
        not_left = λ at. let l = (HoldsJust-pattern left v).1 at in omega arith;
      }

  -- and what offends is in the set
  bit_from_offends : (v : ℕ) → Offends part v → bit_at (offending left right met) v ≡ 1
  bit_from_offends v h =
      let r = (HoldsJust-pattern right v).1 h.inside in
      let m = (holds v).1 h.outside in
      let l : bit_at (pattern_set left) v ≢ 1 = λ set. h.not_left ((HoldsJust-pattern left v).0 set) in
      let turned = bit_at_not w64 (pattern_set left) v (pattern_set-lt left fits_left) (right_low v r) in
      let zero_left : bit_at (pattern_set left) v ≡ 0 = omega (arith, bit_at-lt (pattern_set left) v) in
      omega (arith, bits v)

  -- where nothing offends it is fine
  fine_from_zero : offending left right met ≡ 0 → IsFine part
  fine_from_zero empty var inside at = elim (cases_eq (bit_at (pattern_set left) var) 1) as (λ _. Contains (vars_of left) var) [
    | inl set ↦ (HoldsJust-pattern left var).0 set
    | inr not ↦
        let h = bit_from_offends var (record { inside = inside; outside = at; not_left = λ there. not ((HoldsJust-pattern left var).1 there) }) in
        let wrong : bit_at 0 var ≡ 1 = subst (λ set. bit_at set var ≡ 1) empty h in
        absurd (omega (arith, bit_at-zero var))
  ]

  -- else the least variable of the set is the least that offends
  least_from_set : offending left right met ≢ 0 → IsLeastOffence part (trailing_zeros w64 (offending left right met))
  least_from_set some =
      let set = offending left right met in
      let right_word = pattern_set-lt right fits_right in
      let low : set < 2 ^ 64 = omega (arith, and_le_l (bit_and (pattern_set right) (bit_not w64 (pattern_set left))) met, and_le_l (pattern_set right) (bit_not w64 (pattern_set left))) in
      let place = bit_at-trailing_zeros w64 set (omega arith) low in
      record {
        offends = offends_from_bit (trailing_zeros w64 set) place.1;
        least = λ other h. elim (cases_lt other (trailing_zeros w64 set)) as (λ _. trailing_zeros w64 set ≤ other) [
          | inl less ↦ (let one = bit_from_offends other h in absurd (omega (arith, place.2 other less)))
          | inr not_less ↦ not_less
        ];
      }

  -- so its own fault is the answer of it alone
  own-verdict : (number : ℕ) → IsVerdict number (part ∷ []) (own_fault number (offending left right met))
  own-verdict number =
      let set = offending left right met in
      elim (set == 0) as (λ b. (set == 0) ≡ b → IsVerdict number (part ∷ []) (if b then None else Some (fault number (trailing_zeros w64 set)))) [
        | true ↦ λ e. inl (fine_from_zero (eqb-true set 0 e), refl)
        | false ↦ λ e. inr (trailing_zeros w64 set, least_from_set (eqb-false set 0 e), refl)
      ] refl

-- ---- the OPTIONALs of a part

-- with the variables of a part, where they count
abbrev with_vars : Bool → List ℕ → Algebra → List ℕ
with_vars counts outside part = outside ++ (if counts then vars_of part else [])

-- the word with the set of a part holds them
HoldsJust-with : (counts : Bool) (met : ℕ) (outside : List ℕ) (side : Algebra) → HoldsJust met outside → HoldsJust (with_set counts met side) (with_vars counts outside side)
HoldsJust-with true met outside side holds = HoldsJust-or met (pattern_set side) outside (vars_of side) holds (HoldsJust-pattern side)
HoldsJust-with false met outside side holds = subst (HoldsJust met) (sym (append-nil outside)) holds

-- the OPTIONALs of a part, each with the variables on the sides that count
abbrev beside : Bool → Bool → List ℕ → Algebra → List OptionalPart
beside after before outside (Bgp list) = []
beside after before outside (Join left right) = beside after before (with_vars after outside right) left ++ beside after before (with_vars before outside left) right
beside after before outside (LeftJoin left right) =
    beside after before (with_vars after outside right) left ++ (record { left = left; right = right; outside = outside } ∷ beside after before (with_vars before outside left) right)

-- how many there are
length-beside : (after before : Bool) (outside : List ℕ) (pattern : Algebra) → length (beside after before outside pattern) ≡ optional_parts pattern
length-beside after before outside (Bgp list) = refl
length-beside after before outside (Join left right) =
    let first = beside after before (with_vars after outside right) left in
    let second = beside after before (with_vars before outside left) right in
    omega (arith, length-append first second, length-beside after before (with_vars after outside right) left, length-beside after before (with_vars before outside left) right)
length-beside after before outside (LeftJoin left right) =
    let first = beside after before (with_vars after outside right) left in
    let part : OptionalPart = record { left = left; right = right; outside = outside } in
    let second = beside after before (with_vars before outside left) right in
    omega (arith, length-append first (part ∷ second), length-beside after before (with_vars after outside right) left, length-beside after before (with_vars before outside left) right)

-- of three answers in a row
option_or-assoc : {X : Type 0} (a b c : Option X) → option_or (option_or a b) c ≡ option_or a (option_or b c)
option_or-assoc None b c = refl
option_or-assoc (Some x) b c = refl

-- the walk answers of these
beside-verdict : (after before : Bool) (pattern : Algebra) (outside : List ℕ) (met number : ℕ) → PatternFits pattern → HoldsJust met outside → IsVerdict (number + 1) (beside after before outside pattern) (fault_beside after before met number pattern)
beside-verdict after before (Bgp list) outside met number fits holds = refl
beside-verdict after before (Join left right) outside met number fits holds =
    let first = beside after before (with_vars after outside right) left in
    let second = beside after before (with_vars before outside left) right in
    let u = fault_beside after before (with_set after met right) number left in
    let v = fault_beside after before (with_set before met left) (number + optional_parts left) right in
    let hu = beside-verdict after before left (with_vars after outside right) (with_set after met right) number fits.0 (HoldsJust-with after met outside right holds) in
    let hv = beside-verdict after before right (with_vars before outside left) (with_set before met left) (number + optional_parts left) fits.1 (HoldsJust-with before met outside left holds) in
    let place : (number + optional_parts left) + 1 ≡ (number + 1) + length first = omega (arith, length-beside after before (with_vars after outside right) left) in
    verdict-append first second (number + 1) u v hu (subst (λ n. IsVerdict n second v) place hv)
beside-verdict after before (LeftJoin left right) outside met number fits holds =
    let first = beside after before (with_vars after outside right) left in
    let part : OptionalPart = record { left = left; right = right; outside = outside } in
    let second = beside after before (with_vars before outside left) right in
    let own_number = number + optional_parts left + 1 in
    let u = fault_beside after before (with_set after met right) number left in
    let own = own_fault own_number (offending left right met) in
    let v = fault_beside after before (with_set before met left) own_number right in
    let hu = beside-verdict after before left (with_vars after outside right) (with_set after met right) number fits.0 (HoldsJust-with after met outside right holds) in
    let hown = own-verdict left right fits.0 fits.1 met outside holds own_number in
    let hv = beside-verdict after before right (with_vars before outside left) (with_set before met left) own_number fits.1 (HoldsJust-with before met outside left holds) in
    let rest = verdict-append (part ∷ []) second own_number own v hown hv in
    let place : own_number ≡ (number + 1) + length first = omega (arith, length-beside after before (with_vars after outside right) left) in
    let all = verdict-append first (part ∷ second) (number + 1) u (option_or own v) hu (subst (λ n. IsVerdict n (part ∷ second) (option_or own v)) place rest) in
    subst (IsVerdict (number + 1) (first ++ (part ∷ second))) (sym (option_or-assoc u own v)) all

-- the walk back counts from the end
pub backward-is : (pattern : Algebra) (met number end : ℕ) → end ≡ number + optional_parts pattern → backward met end pattern ≡ fault_beside true false met number pattern
backward-is (Bgp list) met number end is = refl
backward-is (Join left right) met number end is =
    let l = backward-is left (bit_or met (pattern_set right)) number (end - optional_parts right) (omega arith) in
    let r = backward-is right met (number + optional_parts left) end (omega arith) in
    ap (λ o. option_or o (backward met end right)) l ∙ ap (option_or (fault_beside true false (bit_or met (pattern_set right)) number left)) r
backward-is (LeftJoin left right) met number end is =
    let own_number = number + optional_parts left + 1 in
    let place : end - optional_parts right ≡ own_number = omega arith in
    let l = backward-is left (bit_or met (pattern_set right)) number (end - optional_parts right - 1) (omega arith) in
    let r = backward-is right met own_number end (omega arith) in
    let set = offending left right met in
    let a = fault_beside true false (bit_or met (pattern_set right)) number left in
    ap (λ o. option_or (option_or o (own_fault (end - optional_parts right) set)) (backward met end right)) l
    ∙ ap (λ n. option_or (option_or a (own_fault n set)) (backward met end right)) place
    ∙ ap (option_or (option_or a (own_fault own_number set))) r

-- ---- both sides

-- the third list has the variables of the first two
abbrev IsEither : List ℕ → List ℕ → List ℕ → Type 0
IsEither before after outside = (var : ℕ) → Contains outside var ↔ (Contains before var ⊎ Contains after var)

-- with some variables more, on the one side or on the other
either_before : (before after outside vars : List ℕ) → IsEither before after outside → IsEither (before ++ vars) (after ++ []) (outside ++ vars)
either_before before after outside vars is var = (
  λ at. elim (Contains-append_cases outside vars var at) as (λ _. Contains (before ++ vars) var ⊎ Contains (after ++ []) var) [
    | inl there ↦ elim ((is var).0 there) as (λ _. Contains (before ++ vars) var ⊎ Contains (after ++ []) var) [
      | inl first ↦ inl (Contains-append_left before vars var first)
      | inr second ↦ inr (Contains-append_left after [] var second)
    ]
    | inr there ↦ inl (Contains-append_right before vars var there)
  ],
  λ either. elim either as (λ _. Contains (outside ++ vars) var) [
    | inl at ↦ elim (Contains-append_cases before vars var at) as (λ _. Contains (outside ++ vars) var) [
      | inl first ↦ Contains-append_left outside vars var ((is var).1 (inl first))
      | inr there ↦ Contains-append_right outside vars var there
    ]
    | inr at ↦ elim (Contains-append_cases after [] var at) as (λ _. Contains (outside ++ vars) var) [
      | inl second ↦ Contains-append_left outside vars var ((is var).1 (inr second))
      | inr nothing ↦ absurd (Contains-nil var nothing)
    ]
  ],
)

-- the sides exchanged
either_turned : (before after outside : List ℕ) → IsEither before after outside → IsEither after before outside
either_turned before after outside is var = (
  λ at. elim ((is var).0 at) as (λ _. Contains after var ⊎ Contains before var) [ inl first ↦ inr first | inr second ↦ inl second ],
  λ either. elim either as (λ _. Contains outside var) [ inl second ↦ (is var).1 (inr second) | inr first ↦ (is var).1 (inl first) ],
)

either_after : (before after outside vars : List ℕ) → IsEither before after outside → IsEither (before ++ []) (after ++ vars) (outside ++ vars)
either_after before after outside vars is =
    either_turned (after ++ vars) (before ++ []) (outside ++ vars) (either_before after before outside vars (either_turned before after outside is))

-- what stands before an OPTIONAL and what stands after it is what stands outside of it
both_beside : (pattern : Algebra) (before after outside : List ℕ) → IsEither before after outside → AreBoth (beside false true before pattern) (beside true false after pattern) (optionals_beside outside pattern)
both_beside (Bgp list) before after outside is = none
both_beside (Join left right) before after outside is =
    AreBoth-append (both_beside left (before ++ []) (after ++ vars_of right) (outside ++ vars_of right) (either_after before after outside (vars_of right) is))
    (both_beside right (before ++ vars_of left) (after ++ []) (outside ++ vars_of left) (either_before before after outside (vars_of left) is))
both_beside (LeftJoin left right) before after outside is =
    let own : IsBoth (record { left = left; right = right; outside = before }) (record { left = left; right = right; outside = after }) (record { left = left; right = right; outside = outside }) =
    record { left_x = refl; right_x = refl; left_y = refl; right_y = refl; outside = is } in
    AreBoth-append (both_beside left (before ++ []) (after ++ vars_of right) (outside ++ vars_of right) (either_after before after outside (vars_of right) is))
    (more own (both_beside right (before ++ vars_of left) (after ++ []) (outside ++ vars_of left) (either_before before after outside (vars_of left) is)))

-- both walks together answer of the OPTIONALs of the pattern
pub test-verdict : (pattern : Algebra) → PatternFits pattern → IsVerdict 1 (optionals_of pattern) (earlier (fault_beside false true 0 0 pattern) (fault_beside true false 0 0 pattern))
test-verdict pattern fits =
    let nothing : IsEither [] [] [] = λ var. (λ at. inl at, λ either. elim either as (λ _. Contains [] var) [ inl at ↦ at | inr at ↦ at ]) in
    verdict-both (both_beside pattern [] [] [] nothing) 1 (fault_beside false true 0 0 pattern) (fault_beside true false 0 0 pattern)
    (beside-verdict false true pattern [] 0 0 fits HoldsJust-nil) (beside-verdict true false pattern [] 0 0 fits HoldsJust-nil)

-- so is the first of what both walks answer
pub answered : (pattern : Algebra) → PatternFits pattern → (onward back answer : Option NotWellDesigned) (count : ℕ) →
    onward ≡ fault_beside false true 0 0 pattern → back ≡ backward 0 count pattern → count ≡ 0 + optional_parts pattern → answer ≡ earlier onward back → IsVerdict 1 (optionals_of pattern) answer
answered pattern fits onward back answer count on is_back counted is =
    let other : back ≡ fault_beside true false 0 0 pattern = is_back ∙ backward-is pattern 0 0 count counted in
    subst (IsVerdict 1 (optionals_of pattern)) (sym (is ∙ ap (λ o. earlier o back) on ∙ ap (earlier (fault_beside false true 0 0 pattern)) other)) (test-verdict pattern fits)
