-- Pruning keeps the partial solutions: the triples that one uses are a consistent family, so the greatest consistent
-- family has them.
use Rattle.std.proofs.Common.{◌≡◌, ◌↔◌, ℕ, ◌++◌, inl, inr, Bool, true, false, eqb, List, [], ◌∷◌, get_or, map, filter, All, Any, Contains, Some, IsTrue, refl, sym, ◌∙◌, ap, subst, eq-eqb, eqb-true}
use Rattle.std.proofs.lemmas.List.Elements.{All-head, All-tail, Contains-get_or, Contains-append_cases}
use Rattle.bm_term.proofs.Elements.{Contains-head, Contains-tail, Contains-cons_cases, Contains-nil, Contains-single}
use Rattle.alg_model.specs.declared.pattern.Place.{Place}
use Rattle.alg_model.specs.declared.pattern.Place.TheVariants as places
use Rattle.alg_model.specs.declared.pattern.TriplePat.{TriplePat}
use Rattle.alg_model.specs.Row.{Row, binding}
use Rattle.alg_model.specs.Pattern.{IsVar, place_vars, triple_vars}
use Rattle.alg_model.specs.Eval.{Interpretation}
use Rattle.alg_model.specs.Solution.{Becomes, Makes}
use Rattle.pattern_tree.specs.Consistent.{TakesValue, IsConsistent, IsPartOf, IsGreatestConsistent, IsLeftOf}
use Rattle.pattern_tree.specs.Solution.{Family, IsPartialSolution}
use Rattle.pattern_tree.specs.Standing.{StandsAt, IsWithin, IsNumbered}
use Rattle.pattern_tree.specs.Tree.{TreeNode, patterns_of}
use Rattle.pattern_tree.proofs.Evaluation.{Contains-filter, filter-Contains}
use Rattle.pattern_tree.proofs.Standing.{patterns_of-stands, stands-patterns_of, holds_above}

-- ---- lists

pub Contains-map : {X Y : Type 0} (f : X → Y) (xs : List X) (x : X) → Contains xs x → Contains (map f xs) (f x)
Contains-map f [] x at = absurd (Contains-nil x at)
Contains-map f (y ∷ xs) x at = elim (Contains-cons_cases y xs x at) as (λ _. Contains (map f (y ∷ xs)) (f x)) [
  | inl is ↦ subst (λ z. Contains (f y ∷ map f xs) z) (ap f is) (Contains-head (f y) (map f xs))
  | inr later ↦ Contains-tail (f y) (map f xs) (f x) (Contains-map f xs x later)
]

pub map-Contains : {X Y : Type 0} (f : X → Y) (xs : List X) (y : Y) → Contains (map f xs) y → (x : X) × Contains xs x × (f x ≡ y)
map-Contains f [] y at = absurd (Contains-nil y at)
map-Contains {X} f (x ∷ xs) y at = elim (Contains-cons_cases (f x) (map f xs) y at) as (λ _. (z : X) × Contains (x ∷ xs) z × (f z ≡ y)) [
  | inl is ↦ (x, Contains-head x xs, is)
  | inr later ↦ let rest = map-Contains f xs y later in (rest.0, Contains-tail x xs rest.0 rest.1, rest.2)
]

-- ---- values that variables take

-- a place that is a variable
var_vars : (place : Place) (var : ℕ) → Contains (place_vars place) var → IsVar place var
var_vars (places.Var v) var at = Contains-single v.0 var at
var_vars (places.Term text) var at = absurd (Contains-nil var at)

module _ {V X : Type 0} (interpretation : Interpretation V X) where
  -- the row binds it to what the place becomes
  binds_place : (row : Row V) (place : Place) (var : ℕ) (value : V) → IsVar place var → Becomes interpretation row place value → binding row var ≡ Some value
  binds_place row (places.Var v) var value is becomes = subst (λ var. binding row var ≡ Some value) is becomes
  binds_place row (places.Term text) var value is becomes = absurd is

  -- the row that makes the triple pattern a triple binds each variable to the value that it takes
  pub binds_value : (row : Row V) (pattern : TriplePat) (triple : X) (var : ℕ) (value : V) → Makes interpretation row pattern triple →
      TakesValue interpretation pattern triple var value → binding row var ≡ Some value
  binds_value row pattern triple var value makes (inl at) =
      binds_place row pattern.subject var (interpretation.subject triple) at.0 makes.subject ∙ ap (λ v. Some v) (sym at.1)
  binds_value row pattern triple var value makes (inr (inl at)) =
      binds_place row pattern.predicate var (interpretation.predicate triple) at.0 makes.predicate ∙ ap (λ v. Some v) (sym at.1)
  binds_value row pattern triple var value makes (inr (inr at)) =
      binds_place row pattern.object var (interpretation.object triple) at.0 makes.object ∙ ap (λ v. Some v) (sym at.1)

  -- each variable of a triple pattern takes some value
  pub takes_some : (pattern : TriplePat) (triple : X) (var : ℕ) → Contains (triple_vars pattern) var → (value : V) × TakesValue interpretation pattern triple var value
  takes_some pattern triple var at =
      elim (Contains-append_cases (place_vars pattern.subject ++ place_vars pattern.predicate) (place_vars pattern.object) var at)
      as (λ _. (value : V) × TakesValue interpretation pattern triple var value) [
        | inl first ↦ elim (Contains-append_cases (place_vars pattern.subject) (place_vars pattern.predicate) var first)
            as (λ _. (value : V) × TakesValue interpretation pattern triple var value) [
              | inl there ↦ (interpretation.subject triple, inl (var_vars pattern.subject var there, refl))
              | inr there ↦ (interpretation.predicate triple, inr (inl (var_vars pattern.predicate var there, refl)))
            ]
        | inr there ↦ (interpretation.object triple, inr (inr (var_vars pattern.object var there, refl)))
      ]

-- ---- the triples that a partial solution uses

-- a triple pattern, and the triple that a row makes it
record Use {V X : Type 0} (interpretation : Interpretation V X) (family : Family X) (row : Row V) : Type 0 where
  pattern : TriplePat
  triple : X
  among : Contains (family pattern) triple
  makes : Makes interpretation row pattern triple

module _ {V X : Type 0} (interpretation : Interpretation V X) (n : ℕ) (tree : List TreeNode) (numbered : IsNumbered tree) (whole : Family X) (set : ℕ → Bool) (row : Row V)
    (solution : IsPartialSolution interpretation n tree whole set row) where
  abbrev Used : Type 0
  Used = Use interpretation whole row

  abbrev IsMade : TriplePat → Type 0
  IsMade pattern = Any (Makes interpretation row pattern) (whole pattern)

  abbrev use_of : (pattern : TriplePat) → IsMade pattern → Used
  use_of pattern made = record { pattern = pattern; triple = made.1; among = (made.0, made.2, made.3); makes = made.4 }

  abbrev uses_of : (patterns : List TriplePat) → All IsMade patterns → List Used
  uses_of [] made = []
  uses_of (p ∷ patterns) made = use_of p (All-head IsMade p patterns made) ∷ uses_of patterns (All-tail IsMade p patterns made)

  -- one for each triple pattern
  has_use : (patterns : List TriplePat) (made : All IsMade patterns) (p : TriplePat) → Contains patterns p → (used : Used) × Contains (uses_of patterns made) used × (used.pattern ≡ p)
  has_use [] made p at = absurd (Contains-nil p at)
  has_use (q ∷ patterns) made p at =
      let own = use_of q (All-head IsMade q patterns made) in
      let rest = uses_of patterns (All-tail IsMade q patterns made) in
      elim (Contains-cons_cases q patterns p at) as (λ _. (used : Used) × Contains (own ∷ rest) used × (used.pattern ≡ p)) [
        | inl is ↦ (own, Contains-head own rest, is)
        | inr later ↦ let found = has_use patterns (All-tail IsMade q patterns made) p later in (found.0, Contains-tail own rest found.0 found.1, found.2)
      ]

  -- and no other
  use_is : (patterns : List TriplePat) (made : All IsMade patterns) (used : Used) → Contains (uses_of patterns made) used → Contains patterns used.pattern
  use_is [] made used at = absurd (Contains-nil used at)
  use_is (q ∷ patterns) made used at =
      elim (Contains-cons_cases (use_of q (All-head IsMade q patterns made)) (uses_of patterns (All-tail IsMade q patterns made)) used at) as (λ _. Contains (q ∷ patterns) used.pattern) [
        | inl is ↦ subst (λ used. Contains (q ∷ patterns) used.pattern) is (Contains-head q patterns)
        | inr later ↦ Contains-tail q patterns used.pattern (use_is patterns (All-tail IsMade q patterns made) used later)
      ]

  abbrev solved : List TriplePat
  solved = patterns_of tree set

  abbrev uses : List Used
  uses = uses_of solved solution.solves.made

  -- the family of the triples that are used
  abbrev used_by : Family X
  used_by pattern = map (λ used. used.triple) (filter (λ used. eqb used.pattern.number pattern.number) uses)

  -- a triple pattern of the set uses a triple
  record IsUsed (k : ℕ) (pattern : TriplePat) (triple : X) : Type 0 where
    held : IsTrue (set k)
    among : Contains (whole pattern) triple
    makes : Makes interpretation row pattern triple

  to_used : (k : ℕ) (pattern : TriplePat) → StandsAt tree k pattern → IsTrue (set k) → (triple : X) × Contains (used_by pattern) triple × Makes interpretation row pattern triple × Contains (whole pattern) triple
  to_used k pattern stands held =
      let found = has_use solved solution.solves.made pattern (stands-patterns_of tree set k pattern stands held) in
      let used = found.0 in
      let number : eqb used.pattern.number pattern.number ≡ true = eq-eqb used.pattern.number pattern.number (ap (λ p. p.number) found.2) in
      let kept = Contains-filter (λ used. eqb used.pattern.number pattern.number) uses used found.1 number in (
        used.triple,
        Contains-map (λ used. used.triple) (filter (λ used. eqb used.pattern.number pattern.number) uses) used kept,
        subst (λ p. Makes interpretation row p used.triple) found.2 used.makes,
        subst (λ p. Contains (whole p) used.triple) found.2 used.among,
      )

  from_used : (k : ℕ) (pattern : TriplePat) (triple : X) → StandsAt tree k pattern → Contains (used_by pattern) triple → IsUsed k pattern triple
  from_used k pattern triple stands at =
      let from = map-Contains (λ used. used.triple) (filter (λ used. eqb used.pattern.number pattern.number) uses) triple at in
      let used = from.0 in
      let kept = filter-Contains (λ used. eqb used.pattern.number pattern.number) uses used from.1 in
      let there = patterns_of-stands tree set used.pattern (use_is solved solution.solves.made used kept.0) in
      let one = numbered.one there.0 k used.pattern pattern there.1 stands (eqb-true used.pattern.number pattern.number kept.1) in
      record {
        held = subst (λ k. IsTrue (set k)) one.0 there.2;
        among = subst (λ p. Contains (whole p) triple) one.1 (subst (λ t. Contains (whole used.pattern) t) from.2 used.among);
        makes = subst (λ p. Makes interpretation row p triple) one.1 (subst (λ t. Makes interpretation row used.pattern t) from.2 used.makes);
      }

  used-consistent : IsConsistent interpretation tree used_by
  used-consistent = record {
    values = λ k above pattern other triple var value stands stands' within at takes has.
        let used = from_used k pattern triple stands at in
        let found = to_used above other stands' (holds_above tree set above k solution.rooted within used.held) in
        let some = takes_some interpretation other found.0 var has in
        let bound = binds_value interpretation row pattern triple var value used.makes takes in
        let bound' = binds_value interpretation row other found.0 var some.0 found.2 some.1 in
        let same : some.0 ≡ value = cc in
        (found.0, found.1, subst (λ v. TakesValue interpretation other found.0 var v) same some.1);
    emptied = λ k above pattern other stands stands' within empty. none k above pattern other stands stands' within empty (used_by pattern) refl;
  } where
    none : (k above : ℕ) (pattern other : TriplePat) → StandsAt tree k pattern → StandsAt tree above other → IsWithin tree above k → used_by other ≡ [] →
        (list : List X) → used_by pattern ≡ list → used_by pattern ≡ []
    none k above pattern other stands stands' within empty [] is = is
    none k above pattern other stands stands' within empty (triple ∷ list) is =
        let used = from_used k pattern triple stands (subst (λ list. Contains list triple) (sym is) (Contains-head triple list)) in
        let found = to_used above other stands' (holds_above tree set above k solution.rooted within used.held) in
        absurd (Contains-nil found.0 (subst (λ list. Contains list found.0) empty found.1))

  -- so a family that has each consistent family that is part of the whole solves the same triple patterns
  pub solves_part : (family : Family X) → ((other : Family X) → IsPartOf tree other whole → IsConsistent interpretation tree other → IsPartOf tree other family) →
      IsPartialSolution interpretation n tree family set row
  solves_part family has = record {
    rooted = solution.rooted;
    solves = record { width = solution.solves.width; binds = solution.solves.binds; made = made };
  } where
    part : IsPartOf tree used_by whole
    part k pattern triple stands at = (from_used k pattern triple stands at).among

    made : All (λ pattern. Any (Makes interpretation row pattern) (family pattern)) solved
    made i d low =
        let pattern = get_or solved i d in
        let there = patterns_of-stands tree set pattern (Contains-get_or solved i d low) in
        let found = to_used there.0 pattern there.1 there.2 in
        let at = has used_by part used-consistent there.0 pattern found.0 there.1 found.1 in
        (at.0, found.0, at.1, at.2, found.2)

module _ {V X : Type 0} (interpretation : Interpretation V X) (n : ℕ) (tree : List TreeNode) where
  -- a partial solution over a part is one over the whole
  partial-more : (family whole : Family X) (set : ℕ → Bool) (row : Row V) → IsPartOf tree family whole → IsPartialSolution interpretation n tree family set row → IsPartialSolution interpretation n tree whole set row
  partial-more family whole set row part solution = record {
    rooted = solution.rooted;
    solves = record { width = solution.solves.width; binds = solution.solves.binds; made = made };
  } where
    made : All (λ pattern. Any (Makes interpretation row pattern) (whole pattern)) (patterns_of tree set)
    made i d low =
        let pattern = get_or (patterns_of tree set) i d in
        let there = patterns_of-stands tree set pattern (Contains-get_or (patterns_of tree set) i d low) in
        let a = solution.solves.made i d low in
        let at = part there.0 pattern a.1 there.1 (a.0, a.2, a.3) in
        (at.0, a.1, at.1, at.2, a.4)

  pub pruning-between : (whole least family : Family X) → IsNumbered tree → IsGreatestConsistent interpretation tree whole least → IsPartOf tree least family → IsPartOf tree family whole →
      (set : ℕ → Bool) (row : Row V) → IsPartialSolution interpretation n tree family set row ↔ IsPartialSolution interpretation n tree whole set row
  pruning-between whole least family numbered greatest more part set row = (
    partial-more family whole set row part,
    λ solution. solves_part interpretation n tree numbered whole set row solution family (λ other within consistent k pattern triple stands at.
        more k pattern triple stands (greatest.greatest other within consistent k pattern triple stands at)),
  )

-- ---- what is left is one

-- tests that keep the same items of a list keep the same list
same_kept : {X : Type 0} (xs : List X) (p q : X → Bool) → ((x : X) → Contains xs x → p x ≡ q x) → filter p xs ≡ filter q xs
same_kept [] p q same = refl
same_kept (x ∷ xs) p q same =
    let rest = same_kept xs p q (λ y at. same y (Contains-tail x xs y at)) in
    rw (same x (Contains-head x xs), rest) refl

-- lists with the same items that are kept from one list are one
pub kept_one : {X : Type 0} (xs : List X) (p q : X → Bool) → ((x : X) → Contains (filter p xs) x ↔ Contains (filter q xs) x) → filter p xs ≡ filter q xs
kept_one xs p q same = same_kept xs p q (λ x at. agree (p x) (q x) (λ yes. (filter-Contains q xs x ((same x).0 (Contains-filter p xs x at yes))).1) (λ yes. (filter-Contains p xs x ((same x).1 (Contains-filter q xs x at yes))).1)) where
  agree : (a b : Bool) → (a ≡ true → b ≡ true) → (b ≡ true → a ≡ true) → a ≡ b
  agree true b to from = sym (to refl)
  agree false true to from = from refl
  agree false false to from = refl

module _ {V X : Type 0} (interpretation : Interpretation V X) (tree : List TreeNode) where
  pub left_is_one : (whole left other : Family X) → IsLeftOf interpretation tree whole left → IsLeftOf interpretation tree whole other →
      (k : ℕ) (pattern : TriplePat) → StandsAt tree k pattern → left pattern ≡ other pattern
  left_is_one whole left other is is' k pattern stands =
      let a = is.in_order k pattern stands in
      let b = is'.in_order k pattern stands in
      let to : IsPartOf tree left other = is'.greatest.greatest left is.greatest.within is.greatest.consistent in
      let from : IsPartOf tree other left = is.greatest.greatest other is'.greatest.within is'.greatest.consistent in
      a.1 ∙ kept_one (whole pattern) a.0 b.0 (λ x. (
        λ at. subst (λ list. Contains list x) b.1 (to k pattern x stands (subst (λ list. Contains list x) (sym a.1) at)),
        λ at. subst (λ list. Contains list x) a.1 (from k pattern x stands (subst (λ list. Contains list x) (sym b.1) at)),
      )) ∙ sym b.1
