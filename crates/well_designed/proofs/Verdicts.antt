-- What a walk answers of a list of OPTIONALs: nothing where each is fine, and else the first that fails, with its least
-- variable.
use Rattle.std.proofs.Common.{◌≡◌, ℕ, zero, suc, ◌+◌, ◌<◌, ◌≤◌, ◌==◌, ◌⊎◌, inl, inr, true, false, List, [], ◌∷◌, ◌++◌, length, Option, Some, None, All, Contains, ◌↔◌, zero-add, refl, sym, ◌∙◌, ap, subst, arith, eq-eqb, lt-ltb, le-ltb, ne_eqb}
use Rattle.std.specs.Prelude.{nat_lt, slice_get}
use Rattle.std.specs.Option.{option_or}
use Rattle.std.proofs.lemmas.Bool.{cond-true, cond-false, cases_lt}
use Rattle.std.proofs.lemmas.List.Elements.{All-nil, All-cons}
use Rattle.alg_model.specs.Pattern.{vars_of}
use Rattle.alg_model.specs.WellDesigned.{OptionalPart, IsFine, Offends, IsFirstOffender}
use Rattle.well_designed.specs.declared.design.NotWellDesigned.{NotWellDesigned}
use Rattle.well_designed.specs.Walk.{comes_before, earlier}

-- the fault of an OPTIONAL with a number, and its variable
abbrev pub fault : ℕ → ℕ → NotWellDesigned
fault number var = record { optional = number; var = record { 0 = var } }

-- the variable is the least that offends there
pub record IsLeastOffence (part : OptionalPart) (var : ℕ) : Type 0 where
  pub offends : Offends part var
  pub least : (other : ℕ) → Offends part other → var ≤ other

-- the answer of a list of OPTIONALs, of which the first has this number
abbrev pub IsVerdict : ℕ → List OptionalPart → Option NotWellDesigned → Type 0
IsVerdict number [] answer = answer ≡ None
IsVerdict number (part ∷ parts) answer =
    (IsFine part × IsVerdict (suc number) parts answer) ⊎ ((var : ℕ) × IsLeastOffence part var × (answer ≡ Some (fault number var)))

-- the answer of two lists
pub verdict-append : (xs ys : List OptionalPart) (number : ℕ) (u v : Option NotWellDesigned) → IsVerdict number xs u → IsVerdict (number + length xs) ys v → IsVerdict number (xs ++ ys) (option_or u v)
verdict-append [] ys number u v hu hv =
    let e : number + length {A = OptionalPart} [] ≡ number = omega arith in
    rw hu (subst (λ n. IsVerdict n ys v) e hv)
verdict-append (x ∷ xs) ys number u v hu hv = elim hu as (λ _. IsVerdict number (x ∷ (xs ++ ys)) (option_or u v)) [
  | inl fine ↦
      let e : number + length (x ∷ xs) ≡ suc number + length xs = omega arith in
      inl (fine.0, verdict-append xs ys (suc number) u v fine.1 (subst (λ n. IsVerdict n ys v) e hv))
  | inr bad ↦ inr (bad.0, bad.1, ap (λ o. option_or o v) bad.2)
]

-- a fault is that of no OPTIONAL before the list
later : (xs : List OptionalPart) (number : ℕ) (answer : Option NotWellDesigned) → IsVerdict number xs answer → (answer ≡ None) ⊎ ((e : NotWellDesigned) × (answer ≡ Some e) × (number ≤ e.optional))
later [] number answer h = inl h
later (x ∷ xs) number answer h = elim h as (λ _. (answer ≡ None) ⊎ ((e : NotWellDesigned) × (answer ≡ Some e) × (number ≤ e.optional))) [
  | inl fine ↦ elim (later xs (suc number) answer fine.1) as (λ _. (answer ≡ None) ⊎ ((e : NotWellDesigned) × (answer ≡ Some e) × (number ≤ e.optional))) [
    | inl none ↦ inl none
    | inr some ↦ inr (some.0, some.1, (let low = some.2 in omega arith))
  ]
  | inr bad ↦ inr (fault number bad.0, bad.2, omega arith)
]

-- ---- the first of two faults

-- of two, the second where its OPTIONAL comes first
earlier-second : (a b : NotWellDesigned) → b.optional < a.optional → earlier (Some a) (Some b) ≡ Some b
earlier-second a b h =
    let apart : (b.optional == a.optional) ≡ false = ne_eqb b.optional a.optional (omega arith) in
    let less : nat_lt b.optional a.optional ≡ true = lt-ltb b.optional a.optional h in
    let test : comes_before b a ≡ true = cond-false (b.optional == a.optional) (nat_lt b.var.0 a.var.0) (nat_lt b.optional a.optional) apart ∙ less in
    cond-true (comes_before b a) (Some b) (Some a) test

-- the first where its OPTIONAL does
earlier-first : (a b : NotWellDesigned) → a.optional < b.optional → earlier (Some a) (Some b) ≡ Some a
earlier-first a b h =
    let apart : (b.optional == a.optional) ≡ false = ne_eqb b.optional a.optional (omega arith) in
    let more : nat_lt b.optional a.optional ≡ false = le-ltb b.optional a.optional (omega arith) in
    let test : comes_before b a ≡ false = cond-false (b.optional == a.optional) (nat_lt b.var.0 a.var.0) (nat_lt b.optional a.optional) apart ∙ more in
    cond-false (comes_before b a) (Some b) (Some a) test

-- and of one OPTIONAL that with the lesser variable
earlier-lesser : (number p q : ℕ) → q < p → earlier (Some (fault number p)) (Some (fault number q)) ≡ Some (fault number q)
earlier-lesser number p q h =
    let same : (number == number) ≡ true = eq-eqb number number refl in
    let test : comes_before (fault number q) (fault number p) ≡ true = cond-true (number == number) (nat_lt q p) (nat_lt number number) same ∙ lt-ltb q p h in
    cond-true (comes_before (fault number q) (fault number p)) (Some (fault number q)) (Some (fault number p)) test

earlier-kept : (number p q : ℕ) → p ≤ q → earlier (Some (fault number p)) (Some (fault number q)) ≡ Some (fault number p)
earlier-kept number p q h =
    let same : (number == number) ≡ true = eq-eqb number number refl in
    let test : comes_before (fault number q) (fault number p) ≡ false = cond-true (number == number) (nat_lt q p) (nat_lt number number) same ∙ le-ltb q p h in
    cond-false (comes_before (fault number q) (fault number p)) (Some (fault number q)) (Some (fault number p)) test

-- a fault, and one of a later OPTIONAL or none
first-alone : (number var : ℕ) (other : Option NotWellDesigned) → (other ≡ None) ⊎ ((e : NotWellDesigned) × (other ≡ Some e) × (suc number ≤ e.optional)) → earlier (Some (fault number var)) other ≡ Some (fault number var)
first-alone number var other (inl none) = ap (earlier (Some (fault number var))) none
first-alone number var other (inr some) = ap (earlier (Some (fault number var))) some.1 ∙ earlier-first (fault number var) some.0 (let low = some.2 in omega arith)

second-alone : (number var : ℕ) (other : Option NotWellDesigned) → (other ≡ None) ⊎ ((e : NotWellDesigned) × (other ≡ Some e) × (suc number ≤ e.optional)) → earlier other (Some (fault number var)) ≡ Some (fault number var)
second-alone number var other (inl none) = ap (λ o. earlier o (Some (fault number var))) none
second-alone number var other (inr some) = ap (λ o. earlier o (Some (fault number var))) some.1 ∙ earlier-second some.0 (fault number var) (let low = some.2 in omega arith)

-- ---- an OPTIONAL with what stands on either side of it

-- z is the same OPTIONAL as x and y, and outside of it stand the variables of both
pub record IsBoth (x y z : OptionalPart) : Type 0 where
  pub left_x : x.left ≡ z.left
  pub right_x : x.right ≡ z.right
  pub left_y : y.left ≡ z.left
  pub right_y : y.right ≡ z.right
  pub outside : (var : ℕ) → Contains z.outside var ↔ (Contains x.outside var ⊎ Contains y.outside var)

pub data AreBoth : List OptionalPart → List OptionalPart → List OptionalPart → Type 0 where
  none : AreBoth [] [] []
  more : {x y z : OptionalPart} → {xs ys zs : List OptionalPart} → IsBoth x y z → AreBoth xs ys zs → AreBoth (x ∷ xs) (y ∷ ys) (z ∷ zs)

-- the same of two lists in a row
pub AreBoth-append : {xs ys zs us vs ws : List OptionalPart} → AreBoth xs ys zs → AreBoth us vs ws → AreBoth (xs ++ us) (ys ++ vs) (zs ++ ws)
AreBoth-append none others = others
AreBoth-append (more both rest) others = more both (AreBoth-append rest others)

module _ (x y z : OptionalPart) (both : IsBoth x y z) where
  -- what offends on one side offends
  offends_from_x : (var : ℕ) → Offends x var → Offends z var
  offends_from_x var h = record {
    inside = subst (λ part. Contains (vars_of part) var) both.right_x h.inside;
    outside = (both.outside var).1 (inl h.outside);
    not_left = subst (λ part. ¬ Contains (vars_of part) var) both.left_x h.not_left;
  }

  offends_from_y : (var : ℕ) → Offends y var → Offends z var
  offends_from_y var h = record {
    inside = subst (λ part. Contains (vars_of part) var) both.right_y h.inside;
    outside = (both.outside var).1 (inr h.outside);
    not_left = subst (λ part. ¬ Contains (vars_of part) var) both.left_y h.not_left;
  }

  -- and what offends does so on one side
  offends_on_a_side : (var : ℕ) → Offends z var → Offends x var ⊎ Offends y var
  offends_on_a_side var h = elim ((both.outside var).0 h.outside) as (λ _. Offends x var ⊎ Offends y var) [
    | inl outside ↦ inl (record {
      inside = subst (λ part. Contains (vars_of part) var) (sym both.right_x) h.inside;
      outside = outside;
      not_left = subst (λ part. ¬ Contains (vars_of part) var) (sym both.left_x) h.not_left;
    })
    | inr outside ↦ inr (record {
      inside = subst (λ part. Contains (vars_of part) var) (sym both.right_y) h.inside;
      outside = outside;
      not_left = subst (λ part. ¬ Contains (vars_of part) var) (sym both.left_y) h.not_left;
    })
  ]

  -- where both sides are fine, it is
  fine_on_both : IsFine x → IsFine y → IsFine z
  fine_on_both fine_x fine_y var inside outside = elim ((both.outside var).0 outside) as (λ _. Contains (vars_of z.left) var) [
    | inl at ↦ subst (λ part. Contains (vars_of part) var) both.left_x (fine_x var (subst (λ part. Contains (vars_of part) var) (sym both.right_x) inside) at)
    | inr at ↦ subst (λ part. Contains (vars_of part) var) both.left_y (fine_y var (subst (λ part. Contains (vars_of part) var) (sym both.right_y) inside) at)
  ]

-- where a part is fine nothing offends there
pub not_offended : (part : OptionalPart) (var : ℕ) → IsFine part → ¬ Offends part var
not_offended part var fine h = h.not_left (fine var h.inside h.outside)

-- the answers of both sides together are that of the whole
pub verdict-both : {xs ys zs : List OptionalPart} → AreBoth xs ys zs → (number : ℕ) (u v : Option NotWellDesigned) → IsVerdict number xs u → IsVerdict number ys v → IsVerdict number zs (earlier u v)
verdict-both none number u v hu hv = rw (hu, hv) refl
verdict-both (more {x} {y} {z} {xs} {ys} {zs} both rest) number u v hu hv = elim hu as (λ _. IsVerdict number (z ∷ zs) (earlier u v)) [
  | inl fine_x ↦ elim hv as (λ _. IsVerdict number (z ∷ zs) (earlier u v)) [
    | inl fine_y ↦ inl (fine_on_both x y z both fine_x.0 fine_y.0, verdict-both rest (suc number) u v fine_x.1 fine_y.1)
    | inr bad_y ↦ inr (
      bad_y.0,
      record {
        offends = offends_from_y x y z both bad_y.0 bad_y.1.offends;
        least = λ other h. elim (offends_on_a_side x y z both other h) as (λ _. bad_y.0 ≤ other) [ inl on_x ↦ absurd (not_offended x other fine_x.0 on_x) | inr on_y ↦ bad_y.1.least other on_y ];
      },
      ap (earlier u) bad_y.2 ∙ second-alone number bad_y.0 u (later xs (suc number) u fine_x.1),
    )
  ]
  | inr bad_x ↦ elim hv as (λ _. IsVerdict number (z ∷ zs) (earlier u v)) [
    | inl fine_y ↦ inr (
      bad_x.0,
      record {
        offends = offends_from_x x y z both bad_x.0 bad_x.1.offends;
        least = λ other h. elim (offends_on_a_side x y z both other h) as (λ _. bad_x.0 ≤ other) [ inl on_x ↦ bad_x.1.least other on_x | inr on_y ↦ absurd (not_offended y other fine_y.0 on_y) ];
      },
      ap (λ o. earlier o v) bad_x.2 ∙ first-alone number bad_x.0 v (later ys (suc number) v fine_y.1),
    )
    | inr bad_y ↦
        let p = bad_x.0 in
        let q = bad_y.0 in
        let is : earlier u v ≡ earlier (Some (fault number p)) (Some (fault number q)) = ap (λ o. earlier o v) bad_x.2 ∙ ap (earlier (Some (fault number p))) bad_y.2 in
        elim (cases_lt q p) as (λ _. IsVerdict number (z ∷ zs) (earlier u v)) [
          | inl less ↦ inr (
            q,
            record {
              offends = offends_from_y x y z both q bad_y.1.offends;
              least = λ other h. elim (offends_on_a_side x y z both other h) as (λ _. q ≤ other) [ inl on_x ↦ (let low = bad_x.1.least other on_x in omega arith) | inr on_y ↦ bad_y.1.least other on_y ];
            },
            is ∙ earlier-lesser number p q less,
          )
          | inr kept ↦ inr (
            p,
            record {
              offends = offends_from_x x y z both p bad_x.1.offends;
              least = λ other h. elim (offends_on_a_side x y z both other h) as (λ _. p ≤ other) [ inl on_x ↦ bad_x.1.least other on_x | inr on_y ↦ (let low = bad_y.1.least other on_y in omega arith) ];
            },
            is ∙ earlier-kept number p q kept,
          )
        ]
  ]
]

-- ---- what an answer says

-- no fault: each OPTIONAL is fine
pub verdict-fine : (xs : List OptionalPart) (number : ℕ) → IsVerdict number xs None → All IsFine xs
verdict-fine [] number h = All-nil IsFine
verdict-fine (x ∷ xs) number h = elim h as (λ _. All IsFine (x ∷ xs)) [
  | inl fine ↦ All-cons IsFine x xs fine.0 (verdict-fine xs (suc number) fine.1)
  | inr bad ↦ (let e = bad.2 in cc)
]

-- a fault: it is that of the first that fails
pub verdict-offender : (xs : List OptionalPart) (number : ℕ) (e : NotWellDesigned) → IsVerdict number xs (Some e) → (place : ℕ) × (e.optional ≡ place + number) × IsFirstOffender xs place e.var.0
verdict-offender [] number e h = cc
verdict-offender (x ∷ xs) number e h = elim h as (λ _. (place : ℕ) × (e.optional ≡ place + number) × IsFirstOffender (x ∷ xs) place e.var.0) [
  | inl fine ↦
      let rest = verdict-offender xs (suc number) e fine.1 in
      (suc rest.0, (let is = rest.1 in omega arith), after x xs rest.0 e.var.0 fine.0 rest.2)
  | inr bad ↦
      let is : e ≡ fault number bad.0 = (let some = bad.2 in cc) in
      (0, ap (λ e. e.optional) is ∙ sym (zero-add number), subst (λ var. IsFirstOffender (x ∷ xs) 0 var) (sym (ap (λ e. e.var.0) is)) (here x xs bad.0 bad.1))
] where
  after : (x : OptionalPart) (xs : List OptionalPart) (place var : ℕ) → IsFine x → IsFirstOffender xs place var → IsFirstOffender (x ∷ xs) (suc place) var
  after x xs place var fine is = record {
    part = is.part;
    stands = is.stands;
    offends = is.offends;
    least = is.least;
    first = earlier_ones;
  } where
    earlier_ones : (before : ℕ) (earlier : OptionalPart) → before < suc place → slice_get (x ∷ xs) before ≡ Some earlier → IsFine earlier
    earlier_ones zero earlier low stands = let same : x ≡ earlier = cc in subst IsFine same fine
    earlier_ones (suc before) earlier low stands = is.first before earlier (omega arith) stands

  here : (x : OptionalPart) (xs : List OptionalPart) (var : ℕ) → IsLeastOffence x var → IsFirstOffender (x ∷ xs) 0 var
  here x xs var bad = record { part = x; stands = refl; offends = bad.offends; least = bad.least; first = λ before earlier low stands. absurd (omega arith) }
