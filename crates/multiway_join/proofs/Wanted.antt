-- Pairs that are asked for one after the other, and those that have what is asked for.
use Rattle.std.proofs.Common.{◌≡◌, ℕ, ◌&&◌, inl, inr, Bool, true, false, List, [], ◌∷◌, map, filter, find, Contains, Option, Some, None, refl, sym, ◌∙◌, ap, subst, eqb-true, arith}
use Rattle.std.specs.Prelude.{◌==◌}
use Rattle.std.specs.Option.{option_map}
use Rattle.std.proofs.lemmas.Bool.{cases_Bool, and_parts}
use Rattle.bm_term.proofs.Elements.{Contains-head, Contains-tail}
use Rattle.cube_slices.specs.Pairs.{ComesBefore, PairsAscend}
use Rattle.pattern_rel.specs.declared.bound.Bound.{Bound}
use Rattle.pattern_rel.specs.declared.bound.Pair.{Pair}
use Rattle.pattern_rel.specs.Bounds.{agrees, comes_after, is_after, is_wanted, as_pair, seconds_beside}
use Rattle.pattern_rel.proofs.LeftLaws.{behind_first, comes_after-is}
use Rattle.pattern_rel.proofs.PairLaws.{Contains-filter}
use Rattle.multiway_join.specs.declared.binding.Asked.{Asked}
use Rattle.multiway_join.specs.declared.binding.Asked.TheVariants.{Anything, This, Nothing}
use Rattle.multiway_join.specs.steps.Cursor.{is_asked_for, at_second, HasAsked}

-- ---- filters

-- tests that agree on the items of a list
pub same_filter : {X : Type 0} (p q : X → Bool) (xs : List X) → ((x : X) → Contains xs x → p x ≡ q x) → filter p xs ≡ filter q xs
same_filter p q [] same = refl
same_filter {X} p q (x ∷ xs) same =
    let rest = same_filter p q xs (λ y at. same y (Contains-tail x xs y at)) in
    elim (cases_Bool (q x)) as (λ _. filter p (x ∷ xs) ≡ filter q (x ∷ xs)) [
      | inl passes ↦ rw (same x (Contains-head x xs), passes) (ap (λ (ys : List X). x ∷ ys) rest)
      | inr fails ↦ rw (same x (Contains-head x xs), fails) rest
    ]

-- no item passes
pub filter_none : {X : Type 0} (p : X → Bool) (xs : List X) → ((x : X) → Contains xs x → p x ≡ false) → filter p xs ≡ []
filter_none p [] never = refl
filter_none p (x ∷ xs) never = rw (never x (Contains-head x xs)) (filter_none p xs (λ y at. never y (Contains-tail x xs y at)))

pub filter_whole : {X : Type 0} (xs : List X) → xs ≡ filter (λ x. true) xs
filter_whole [] = refl
filter_whole {X} (x ∷ xs) = ap (λ (ys : List X). x ∷ ys) (filter_whole xs)

-- where none is found, none passes
pub found_none : (test : ℕ × ℕ → Bool) (ps : List (ℕ × ℕ)) → find test ps ≡ None → filter test ps ≡ []
found_none test [] none = refl
found_none test (p ∷ ps) none =
    elim (cases_Bool (test p)) as (λ _. filter test (p ∷ ps) ≡ []) [
      | inl passes ↦ absurd (let found : Some p ≡ None = rw passes at none in cc)
      | inr fails ↦ rw fails (found_none test ps (rw fails at none))
    ]

-- ---- the next pair

-- a pair is not after itself, nor after one behind it
before_itself : (p q : ℕ × ℕ) → ComesBefore p q → ComesBefore q p → ⊥
before_itself p q up down = elim up as (λ _. ⊥) [
  | inl less ↦ elim down as (λ _. ⊥) [ inl more ↦ omega arith | inr same ↦ (let e = same.0 in omega arith) ]
  | inr equal ↦ (let e = equal.0 in let f = equal.1 in elim down as (λ _. ⊥) [ inl more ↦ omega arith | inr same ↦ (let g = same.1 in omega arith) ])
]

not_after : (p q : ℕ × ℕ) → (ComesBefore p q → ⊥) → comes_after p q ≡ false
not_after p q never = elim (cases_Bool (comes_after p q)) as (λ _. comes_after p q ≡ false) [
  | inl after ↦ absurd (never ((comes_after-is p q).0 after))
  | inr is ↦ is
]

later : (p q r : ℕ × ℕ) → ComesBefore p q → ComesBefore q r → ComesBefore p r
later p q r up over = elim up as (λ _. ComesBefore p r) [
  | inl less ↦ elim over as (λ _. ComesBefore p r) [ inl more ↦ inl (omega arith) | inr same ↦ (let e = same.0 in inl (omega arith)) ]
  | inr equal ↦ (let e = equal.0 in let f = equal.1 in elim over as (λ _. ComesBefore p r) [ inl more ↦ inl (omega arith) | inr same ↦ (let g = same.0 in let h = same.1 in inr (e ∙ g, omega arith)) ])
]

still_after : (last : Option Pair) (p r : ℕ × ℕ) → is_after last p ≡ true → ComesBefore p r → is_after last r ≡ true
still_after None p r after up = refl
still_after (Some a) p r after up = (comes_after-is (a.first, a.second) r).1 (later (a.first, a.second) p r ((comes_after-is (a.first, a.second) p).0 after) up)

and_no : (b : Bool) → (b && false) ≡ false
and_no true = refl
and_no false = refl

and_yes : (b : Bool) → (b && true) ≡ b
and_yes true = refl
and_yes false = refl

module _ (rows columns : ℕ) (bound : Bound) (last : Option Pair) (q : ℕ × ℕ) (qs : List (ℕ × ℕ)) (ascend : PairsAscend rows columns (q ∷ qs)) where
  -- what is not after a pair is not wanted after it
  passed_by : (p : ℕ × ℕ) → (ComesBefore p q → ⊥) → is_wanted bound (Some (as_pair p)) q ≡ false
  passed_by p never = ap (λ b. agrees bound q && b) (not_after p q never) ∙ and_no (agrees bound q)

  -- of the pairs behind one that is wanted the same are wanted after it
  same_behind : is_wanted bound last q ≡ true → (r : ℕ × ℕ) → Contains qs r → is_wanted bound last r ≡ is_wanted bound (Some (as_pair q)) r
  same_behind passes r at =
      let up = behind_first rows columns q qs r ascend at in
      ap (λ b. agrees bound r && b) (still_after last q r (and_parts (agrees bound q) (is_after last q) passes).1 up ∙ sym ((comes_after-is (q.0, q.1) r).1 up))

  found_here : is_wanted bound last q ≡ true → filter (is_wanted bound last) (q ∷ qs) ≡ q ∷ filter (is_wanted bound (Some (as_pair q))) (q ∷ qs)
  found_here passes =
      rw (passes, passed_by q (λ up. before_itself q q up up))
      (ap (λ (ps : List (ℕ × ℕ)). q ∷ ps) (same_filter (is_wanted bound last) (is_wanted bound (Some (as_pair q))) qs (same_behind passes)))

  found_there : (p : ℕ × ℕ) → is_wanted bound last q ≡ false → filter (is_wanted bound last) qs ≡ p ∷ filter (is_wanted bound (Some (as_pair p))) qs →
      filter (is_wanted bound last) (q ∷ qs) ≡ p ∷ filter (is_wanted bound (Some (as_pair p))) (q ∷ qs)
  found_there p fails rest =
      let among : Contains (filter (is_wanted bound last) qs) p = subst (λ (ps : List (ℕ × ℕ)). Contains ps p) (sym rest) (Contains-head p (filter (is_wanted bound (Some (as_pair p))) qs)) in
      let up = behind_first rows columns q qs p ascend ((Contains-filter (is_wanted bound last) qs p).0 among).0 in
      rw (fails, passed_by p (λ down. before_itself q p up down)) rest

-- the pair that is found is the first of those that are wanted, and the others are those that are wanted after it
pub next_wanted : (rows columns : ℕ) (bound : Bound) (last : Option Pair) (ps : List (ℕ × ℕ)) (p : ℕ × ℕ) → PairsAscend rows columns ps → find (is_wanted bound last) ps ≡ Some p →
    filter (is_wanted bound last) ps ≡ p ∷ filter (is_wanted bound (Some (as_pair p))) ps
next_wanted rows columns bound last [] p ascend found = absurd (cc)
next_wanted rows columns bound last (q ∷ qs) p ascend found =
    elim (cases_Bool (is_wanted bound last q)) as (λ _. filter (is_wanted bound last) (q ∷ qs) ≡ p ∷ filter (is_wanted bound (Some (as_pair p))) (q ∷ qs)) [
      | inl passes ↦
          let is : Some q ≡ Some p = rw passes at found in
          let same : q ≡ p = cc in
          subst (λ (p : ℕ × ℕ). filter (is_wanted bound last) (q ∷ qs) ≡ p ∷ filter (is_wanted bound (Some (as_pair p))) (q ∷ qs)) same (found_here rows columns bound last q qs ascend passes)
      | inr fails ↦ found_there rows columns bound last q qs ascend p fails (next_wanted rows columns bound last qs p ascend.3 (rw fails at found))
    ]

-- ---- as the code asks

-- what is found is None or a pair as the code has it
pub asked_none : (bound : Bound) (last : Option Pair) (ps : List (ℕ × ℕ)) → None ≡ option_map as_pair (find (is_wanted bound last) ps) → filter (is_wanted bound last) ps ≡ []
asked_none bound last ps is = found_none (is_wanted bound last) ps (none (find (is_wanted bound last) ps) is)
  where
    none : (o : Option (ℕ × ℕ)) → None ≡ option_map as_pair o → o ≡ None
    none None is = refl
    none (Some p) is = absurd (cc)

pub asked_some : (rows columns : ℕ) (bound : Bound) (last : Option Pair) (ps : List (ℕ × ℕ)) (pair : Pair) → PairsAscend rows columns ps → Some pair ≡ option_map as_pair (find (is_wanted bound last) ps) →
    filter (is_wanted bound last) ps ≡ (pair.first, pair.second) ∷ filter (is_wanted bound (Some pair)) ps
asked_some rows columns bound last ps pair ascend is = some (find (is_wanted bound last) ps) refl is
  where
    some : (o : Option (ℕ × ℕ)) → find (is_wanted bound last) ps ≡ o → Some pair ≡ option_map as_pair o → filter (is_wanted bound last) ps ≡ (pair.first, pair.second) ∷ filter (is_wanted bound (Some pair)) ps
    some None found is = absurd (cc)
    some (Some p) found is =
        let same : as_pair p ≡ pair = (let e = sym is in cc) in
        subst (λ (pair : Pair). filter (is_wanted bound last) ps ≡ (pair.first, pair.second) ∷ filter (is_wanted bound (Some pair)) ps) same (next_wanted rows columns bound last ps p ascend found)

-- ---- what is asked for at both sides

-- the pair with two numbers, if there is one, is all that has them
pub one_asked : (rows columns first second : ℕ) (ps : List (ℕ × ℕ)) (pair : Pair) → PairsAscend rows columns ps →
    Some pair ≡ option_map as_pair (find (is_wanted (record { first = Some first; second = Some second }) None) ps) → HasAsked ps (This first) (This second) ((pair.first, pair.second) ∷ [])
one_asked rows columns first second ps pair ascend is =
    let bound : Bound = record { first = Some first; second = Some second } in
    let whole = asked_some rows columns bound None ps pair ascend is in
    let wanted : Contains (filter (is_wanted bound None) ps) (pair.first, pair.second) =
    subst (λ (qs : List (ℕ × ℕ)). Contains qs (pair.first, pair.second)) (sym whole) (Contains-head (pair.first, pair.second) (filter (is_wanted bound (Some pair)) ps)) in
    let has = (Contains-filter (is_wanted bound None) ps (pair.first, pair.second)).1 in
    let at = (Contains-filter (is_wanted bound None) ps (pair.first, pair.second)).0 wanted in
    let numbers = and_parts (first == pair.first) (second == pair.second) (and_parts (first == pair.first && second == pair.second) true at.1).0 in
    let a : first ≡ pair.first = eqb-true first pair.first numbers.0 in
    let b : second ≡ pair.second = eqb-true second pair.second numbers.1 in
    sym (same_filter (λ p. is_asked_for (This first) p.0 && is_asked_for (This second) p.1) (is_wanted bound None) ps (λ p at. sym (and_yes (first == p.0 && second == p.1)))
    ∙ whole ∙ ap (λ (qs : List (ℕ × ℕ)). (pair.first, pair.second) ∷ qs) (filter_none (is_wanted bound (Some pair)) ps (λ r there. behind a b r)))
  where
    -- one with the same numbers is not behind it
    behind : first ≡ pair.first → second ≡ pair.second → (r : ℕ × ℕ) → is_wanted (record { first = Some first; second = Some second }) (Some pair) r ≡ false
    behind a b r = elim (cases_Bool (is_wanted (record { first = Some first; second = Some second }) (Some pair) r)) as (λ _. is_wanted (record { first = Some first; second = Some second }) (Some pair) r ≡ false) [
      | inl passes ↦
          let parts = and_parts (first == r.0 && second == r.1) (comes_after (pair.first, pair.second) r) passes in
          let numbers = and_parts (first == r.0) (second == r.1) parts.0 in
          let c : first ≡ r.0 = eqb-true first r.0 numbers.0 in
          let d : second ≡ r.1 = eqb-true second r.1 numbers.1 in
          let up = (comes_after-is (pair.first, pair.second) r).0 parts.1 in
          absurd (elim up as (λ _. ⊥) [ inl less ↦ omega arith | inr same ↦ (let less = same.1 in omega arith) ])
      | inr is ↦ is
    ]

pub none_asked : (first second : ℕ) (ps : List (ℕ × ℕ)) → None ≡ option_map as_pair (find (is_wanted (record { first = Some first; second = Some second }) None) ps) → HasAsked ps (This first) (This second) []
none_asked first second ps is =
    sym (same_filter (λ p. is_asked_for (This first) p.0 && is_asked_for (This second) p.1) (is_wanted (record { first = Some first; second = Some second }) None) ps (λ p at. sym (and_yes (first == p.0 && second == p.1)))
    ∙ asked_none (record { first = Some first; second = Some second }) None ps is)

pub row_asked : (first : ℕ) (ps : List (ℕ × ℕ)) → HasAsked ps (This first) Anything (map {B = ℕ × ℕ} (λ c. (first, c)) (seconds_beside first ps))
row_asked first [] = refl
row_asked first (p ∷ ps) = elim (cases_Bool (first == p.0)) as (λ _. map {B = ℕ × ℕ} (λ c. (first, c)) (seconds_beside first (p ∷ ps)) ≡ filter (λ p. is_asked_for (This first) p.0 && true) (p ∷ ps)) [
  | inl is ↦ rw is (let same : first ≡ p.0 = eqb-true first p.0 is in let e : (first, p.1) ≡ p = ap (λ n. (n, p.1)) same in let rest = row_asked first ps in cc)
  | inr is ↦ rw is (row_asked first ps)
]

pub column_asked : (second : ℕ) (ps : List (ℕ × ℕ)) → HasAsked ps Anything (This second) (filter (is_wanted (at_second second) None) ps)
column_asked second ps = same_filter (is_wanted (at_second second) None) (λ p. is_asked_for Anything p.0 && is_asked_for (This second) p.1) ps (λ p at. and_yes (second == p.1))

pub nothing_first : (second : Asked) (ps : List (ℕ × ℕ)) → HasAsked ps Nothing second []
nothing_first second ps = sym (filter_none (λ p. is_asked_for Nothing p.0 && is_asked_for second p.1) ps (λ p at. refl))

pub nothing_second : (first : Asked) (ps : List (ℕ × ℕ)) → HasAsked ps first Nothing []
nothing_second first ps = sym (filter_none (λ p. is_asked_for first p.0 && is_asked_for Nothing p.1) ps (λ p at. and_no (is_asked_for first p.0)))

pub all_asked : (ps : List (ℕ × ℕ)) → HasAsked ps Anything Anything ps
all_asked ps = filter_whole ps

pub ruleset asked_pairs = (row_asked, column_asked, nothing_first, nothing_second, all_asked)
