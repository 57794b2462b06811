-- What pruning leaves of a family of names, named, is what it leaves of the family that they name.
use Rattle.std.proofs.Common.{◌≡◌, ℕ, Bool, true, ◌&&◌, inl, inr, List, [], ◌∷◌, map, filter, Contains, refl, sym, ◌∙◌, ap, subst}
use Rattle.std.specs.List.{list_any}
use Rattle.std.proofs.lemmas.Bool.{and_parts, and_from}
use Rattle.std.proofs.lemmas.List.Folds.{list_any_at, Any-from_list_any}
use Rattle.bm_term.proofs.Elements.{Contains-nil, Contains-head}
use Rattle.alg_model.specs.declared.pattern.TriplePat.{TriplePat}
use Rattle.alg_model.specs.Eval.{Interpretation}
use Rattle.alg_model.specs.Pattern.{triple_vars}
use Rattle.alg_model.specs.Solution.{TellsValues}
use Rattle.naming_laws.specs.Naming.{IsNaming, TellsApart, named_family}
use Rattle.pattern_tree.specs.Consistent.{TakesValue, IsConsistent, IsPartOf, IsGreatestConsistent}
use Rattle.pattern_tree.specs.Solution.{Family}
use Rattle.pattern_tree.specs.Standing.{StandsAt, IsWithin}
use Rattle.pattern_tree.specs.Tree.{TreeNode}
use Rattle.pattern_tree.proofs.Evaluation.{Contains-filter, filter-Contains}
use Rattle.pattern_tree.proofs.Pruning.{Contains-map, map-Contains}

-- ---- lists

all_gone : {X : Type 0} (xs : List X) → ((x : X) → ¬ Contains xs x) → xs ≡ []
all_gone [] none = refl
all_gone (x ∷ xs) none = absurd (none x (Contains-head x xs))

none_there : {X : Type 0} (xs : List X) (x : X) → xs ≡ [] → ¬ Contains xs x
none_there xs x is at = Contains-nil x (subst (λ list. Contains list x) is at)

some_passes : {X : Type 0} (test : X → Bool) (xs : List X) (x : X) → Contains xs x → test x ≡ true → list_any test xs ≡ true
some_passes test xs x at is = list_any_at test xs at.0 x at.1 (subst (λ z. test z ≡ true) (sym at.2) is)

passes_some : {X : Type 0} (test : X → Bool) (xs : List X) → list_any test xs ≡ true → (x : X) × Contains xs x × (test x ≡ true)
passes_some test xs is = let any = Any-from_list_any test xs is in (any.1, (any.0, any.2, any.3), any.4)

module _ {W Y V X : Type 0} (names : Interpretation W Y) (interpretation : Interpretation V X) (value : W → V) (triple : Y → X) (naming : IsNaming names interpretation value triple) where
  takes_named : (pattern : TriplePat) (y : Y) (var : ℕ) (name : W) → TakesValue names pattern y var name → TakesValue interpretation pattern (triple y) var (value name)
  takes_named pattern y var name (inl at) = inl (at.0, ap value at.1 ∙ sym (naming.subject y))
  takes_named pattern y var name (inr (inl at)) = inr (inl (at.0, ap value at.1 ∙ sym (naming.predicate y)))
  takes_named pattern y var name (inr (inr at)) = inr (inr (at.0, ap value at.1 ∙ sym (naming.object y)))

  name_taken : (pattern : TriplePat) (y : Y) (var : ℕ) (x : V) → TakesValue interpretation pattern (triple y) var x → (name : W) × TakesValue names pattern y var name × (value name ≡ x)
  name_taken pattern y var x (inl at) = (names.subject y, inl (at.0, refl), sym (naming.subject y) ∙ sym at.1)
  name_taken pattern y var x (inr (inl at)) = (names.predicate y, inr (inl (at.0, refl)), sym (naming.predicate y) ∙ sym at.1)
  name_taken pattern y var x (inr (inr at)) = (names.object y, inr (inr (at.0, refl)), sym (naming.object y) ∙ sym at.1)

  module _ (tells : TellsValues interpretation) (tree : List TreeNode) (family : Family Y) (apart : TellsApart names value tree family) where
    -- names of one variable that have one value are one
    one_name : (k j : ℕ) (pattern other : TriplePat) (y z : Y) (var : ℕ) (v w : W) → StandsAt tree k pattern → StandsAt tree j other → Contains (family pattern) y → Contains (family other) z →
        TakesValue names pattern y var v → TakesValue names other z var w → value w ≡ value v → TakesValue names other z var v
    one_name k j pattern other y z var v w stands stands' at at' takes takes' same =
        subst (TakesValue names other z var) (apart.one j k other pattern z y var w v stands' stands at' at takes' takes same) takes'

    named_consistent : (left : Family Y) → IsPartOf tree left family → IsConsistent names tree left → IsConsistent interpretation tree (named_family triple left)
    named_consistent left within consistent = record { values = values; emptied = emptied } where
      values : (k above : ℕ) (pattern other : TriplePat) (x : X) (var : ℕ) (v : V) → StandsAt tree k pattern → StandsAt tree above other → IsWithin tree above k →
          Contains (named_family triple left pattern) x → TakesValue interpretation pattern x var v → Contains (triple_vars other) var →
          (found : X) × Contains (named_family triple left other) found × TakesValue interpretation other found var v
      values k above pattern other x var v stands stands' in_tree at takes has =
          let from = map-Contains triple (left pattern) x at in
          let name = name_taken pattern from.0 var v (subst (λ x. TakesValue interpretation pattern x var v) (sym from.2) takes) in
          let found = consistent.values k above pattern other from.0 var name.0 stands stands' in_tree from.1 name.1 has in (
            triple found.0,
            Contains-map triple (left other) found.0 found.1,
            subst (TakesValue interpretation other (triple found.0) var) name.2 (takes_named other found.0 var name.0 found.2),
          )

      emptied : (k above : ℕ) (pattern other : TriplePat) → StandsAt tree k pattern → StandsAt tree above other → IsWithin tree above k → named_family triple left other ≡ [] → named_family triple left pattern ≡ []
      emptied k above pattern other stands stands' in_tree none =
          let gone = all_gone (left other) (λ y at. none_there (named_family triple left other) (triple y) none (Contains-map triple (left other) y at)) in
          ap (map triple) (consistent.emptied k above pattern other stands stands' in_tree gone)

    -- ---- the names of the triples of a family

    -- whether two triples have the same three values
    abbrev alike : X → X → Bool
    alike x z = interpretation.same (interpretation.subject x) (interpretation.subject z)
        && (interpretation.same (interpretation.predicate x) (interpretation.predicate z) && interpretation.same (interpretation.object x) (interpretation.object z))

    alike_itself : (x z : X) → x ≡ z → alike x z ≡ true
    alike_itself x z is = and_from _ _ ((tells _ _).1 (ap interpretation.subject is)) (and_from _ _ ((tells _ _).1 (ap interpretation.predicate is)) ((tells _ _).1 (ap interpretation.object is)))

    alike_takes : (pattern : TriplePat) (x z : X) (var : ℕ) (v : V) → alike x z ≡ true → TakesValue interpretation pattern x var v → TakesValue interpretation pattern z var v
    alike_takes pattern x z var v is takes = take takes where
      parts : (interpretation.same (interpretation.subject x) (interpretation.subject z) ≡ true)
          × ((interpretation.same (interpretation.predicate x) (interpretation.predicate z) && interpretation.same (interpretation.object x) (interpretation.object z)) ≡ true)
      parts = and_parts _ _ is

      later : (interpretation.same (interpretation.predicate x) (interpretation.predicate z) ≡ true) × (interpretation.same (interpretation.object x) (interpretation.object z) ≡ true)
      later = and_parts _ _ parts.1

      take : TakesValue interpretation pattern x var v → TakesValue interpretation pattern z var v
      take (inl at) = inl (at.0, at.1 ∙ (tells (interpretation.subject x) (interpretation.subject z)).0 parts.0)
      take (inr (inl at)) = inr (inl (at.0, at.1 ∙ (tells (interpretation.predicate x) (interpretation.predicate z)).0 later.0))
      take (inr (inr at)) = inr (inr (at.0, at.1 ∙ (tells (interpretation.object x) (interpretation.object z)).0 later.1))

    -- the names, in the family, of what another lists
    abbrev names_of : Family X → Family Y
    names_of other pattern = filter (λ y. list_any (alike (triple y)) (other pattern)) (family pattern)

    module _ (other : Family X) (within : IsPartOf tree other (named_family triple family)) where
      name_of : (k : ℕ) (pattern : TriplePat) (x : X) → StandsAt tree k pattern → Contains (other pattern) x → (y : Y) × Contains (names_of other pattern) y × (triple y ≡ x)
      name_of k pattern x stands at =
          let from = map-Contains triple (family pattern) x (within k pattern x stands at) in (
            from.0,
            Contains-filter (λ y. list_any (alike (triple y)) (other pattern)) (family pattern) from.0 from.1 (some_passes (alike (triple from.0)) (other pattern) x at (alike_itself (triple from.0) x from.2)),
            from.2,
          )

      names_within : (pattern : TriplePat) (y : Y) → Contains (names_of other pattern) y → Contains (family pattern) y
      names_within pattern y at = (filter-Contains (λ y. list_any (alike (triple y)) (other pattern)) (family pattern) y at).0

      name_for : (pattern : TriplePat) (y : Y) → Contains (names_of other pattern) y → (x : X) × Contains (other pattern) x × (alike (triple y) x ≡ true)
      name_for pattern y at = passes_some (alike (triple y)) (other pattern) (filter-Contains (λ y. list_any (alike (triple y)) (other pattern)) (family pattern) y at).1

      names_consistent : IsConsistent interpretation tree other → IsConsistent names tree (names_of other)
      names_consistent consistent = record { values = values; emptied = emptied } where
        values : (k above : ℕ) (pattern upper : TriplePat) (y : Y) (var : ℕ) (name : W) → StandsAt tree k pattern → StandsAt tree above upper → IsWithin tree above k →
            Contains (names_of other pattern) y → TakesValue names pattern y var name → Contains (triple_vars upper) var →
            (found : Y) × Contains (names_of other upper) found × TakesValue names upper found var name
        values k above pattern upper y var name stands stands' in_tree at takes has =
            let x = name_for pattern y at in
            let found = consistent.values k above pattern upper x.0 var (value name) stands stands' in_tree x.1 (alike_takes pattern (triple y) x.0 var (value name) x.2 (takes_named pattern y var name takes)) has in
            let z = name_of above upper found.0 stands' found.1 in
            let own = name_taken upper z.0 var (value name) (subst (λ x. TakesValue interpretation upper x var (value name)) (sym z.2) found.2) in
            (z.0, z.1, one_name k above pattern upper y z.0 var name own.0 stands stands' (names_within pattern y at) (names_within upper z.0 z.1) takes own.1 own.2)

        emptied : (k above : ℕ) (pattern upper : TriplePat) → StandsAt tree k pattern → StandsAt tree above upper → IsWithin tree above k → names_of other upper ≡ [] → names_of other pattern ≡ []
        emptied k above pattern upper stands stands' in_tree none =
            let gone = all_gone (other upper) (λ x at. (let z = name_of above upper x stands' at in none_there (names_of other upper) z.0 none z.1)) in
            let empty = consistent.emptied k above pattern upper stands stands' in_tree gone in
            all_gone (names_of other pattern) (λ y at. (let x = name_for pattern y at in none_there (other pattern) x.0 empty x.1))

    pub greatest_named : (left : Family Y) → IsGreatestConsistent names tree family left → IsGreatestConsistent interpretation tree (named_family triple family) (named_family triple left)
    greatest_named left is = record {
      within = λ k pattern x stands at.
          let from = map-Contains triple (left pattern) x at in
          subst (Contains (named_family triple family pattern)) from.2 (Contains-map triple (family pattern) from.0 (is.within k pattern from.0 stands from.1));
      consistent = named_consistent left is.within is.consistent;
      greatest = λ other within consistent k pattern x stands at.
          let y = name_of other within k pattern x stands at in
          let there = is.greatest (names_of other) (λ k pattern y stands at. names_within other within pattern y at) (names_consistent other within consistent) k pattern y.0 stands y.1 in
          subst (Contains (named_family triple left pattern)) y.2 (Contains-map triple (left pattern) y.0 there);
    }
