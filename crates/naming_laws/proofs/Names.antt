-- Partial solutions and maximal rows over names, and over what the names name.
use Rattle.std.proofs.Common.{◌≡◌, ◌↔◌, ℕ, inl, inr, Bool, List, length, get_or, All, Any, Contains, Some, IsTrue, refl, sym, ◌∙◌, ap, subst}
use Rattle.std.specs.Prelude.{IsSome}
use Rattle.std.specs.Option.{option_map}
use Rattle.std.proofs.lemmas.List.{length-map}
use Rattle.std.proofs.lemmas.List.Elements.{All-contains, All-weaker, Contains-get_or}
use Rattle.alg_model.specs.declared.pattern.Place.{Place}
use Rattle.alg_model.specs.declared.pattern.Place.TheVariants as places
use Rattle.alg_model.specs.declared.pattern.TriplePat.{TriplePat}
use Rattle.alg_model.specs.Eval.{Interpretation}
use Rattle.alg_model.specs.Pattern.{IsVar, triple_vars}
use Rattle.alg_model.specs.Row.{Row, binding, Extends, BindsMore}
use Rattle.alg_model.specs.Solution.{Becomes, Makes}
use Rattle.alg_model.proofs.Cells.{IsSome-from_value}
use Rattle.alg_model.proofs.Lists.{source-flat_map}
use Rattle.pattern_tree.specs.Consistent.{TakesValue}
use Rattle.pattern_tree.specs.Solution.{Family, IsPartialSolution, IsPartialRow, IsMaximalRow}
use Rattle.pattern_tree.specs.Standing.{StandsAt}
use Rattle.pattern_tree.specs.Tree.{TreeNode, patterns_of}
use Rattle.pattern_tree.proofs.Pruning.{Contains-map, map-Contains, binds_value, takes_some}
use Rattle.pattern_tree.proofs.Standing.{patterns_of-stands}
use Rattle.pattern_tree.proofs.Unions.{Extends-both}
use Rattle.naming_laws.specs.Naming.{IsNaming, TellsApart, named_row, named_family}
use Rattle.naming_laws.proofs.NamedRows.{binding_named, named_some, named_none, some_same, names_for}

module _ {W Y V : Type 0} (names : Interpretation W Y) (value : W → V) (n : ℕ) (tree : List TreeNode) (family : Family Y) where
  -- a triple of the list of a triple pattern of the tree gives the variable the name
  pub record IsTaken (var : ℕ) (name : W) : Type 0 where
    pub node : ℕ
    pub pattern : TriplePat
    pub item : Y
    pub stands : StandsAt tree node pattern
    pub among : Contains (family pattern) item
    pub takes : TakesValue names pattern item var name

  -- each that the row of a partial solution binds is so taken
  pub bound_taken : (set : ℕ → Bool) (name : Row W) → IsPartialSolution names n tree family set name → (var : ℕ) (v : W) → binding name var ≡ Some v → IsTaken var v
  bound_taken set name solution var v bound =
      let among = (solution.solves.binds var).0 (IsSome-from_value (binding name var) v bound) in
      let from = source-flat_map triple_vars (patterns_of tree set) var among in
      let stands = patterns_of-stands tree set from.0 from.1 in
      let made = All-contains (λ pattern. Any (Makes names name pattern) (family pattern)) (patterns_of tree set) from.0 solution.solves.made from.1 in
      let some = takes_some names from.0 made.1 var from.2 in
      let bound' = binds_value names name from.0 made.1 var some.0 made.4 some.1 in
      let same : some.0 ≡ v = cc in
      record {
        node = stands.0;
        pattern = from.0;
        item = made.1;
        stands = stands.1;
        among = (made.0, made.2, made.3);
        takes = subst (TakesValue names from.0 made.1 var) same some.1;
      }

  module _ (apart : TellsApart names value tree family) where
    taken_one : (var : ℕ) (v w : W) → IsTaken var v → IsTaken var w → value v ≡ value w → v ≡ w
    taken_one var v w a b same = apart.one a.node b.node a.pattern b.pattern a.item b.item var v w a.stands b.stands a.among b.among a.takes b.takes same

    -- a row of names that the other extends once both are named, extends it
    extends_names : (name other : Row W) → IsPartialRow names n tree family name → IsPartialRow names n tree family other →
        Extends (named_row value other) (named_row value name) → Extends other name
    extends_names name other a b extends var v bound =
        let row : binding (named_row value other) var ≡ Some (value v) = extends var (value v) (binding_named value name var ∙ ap (option_map value) bound) in
        let found = named_some value (binding other var) (value v) (sym (binding_named value other var) ∙ row) in
        let same = taken_one var found.0 v (bound_taken b.0 other b.1 var found.0 found.1) (bound_taken a.0 name a.1 var v bound) found.2 in
        found.1 ∙ ap (λ v. Some v) same

    pub names_one : (name other : Row W) → IsPartialRow names n tree family name → IsPartialRow names n tree family other → named_row value name ≡ named_row value other → name ≡ other
    names_one name other a b same =
        Extends-both n name other a.1.solves.width b.1.solves.width
        (extends_names other name b a (λ var x bound. subst (λ row. binding row var ≡ Some x) (sym same) bound))
        (extends_names name other a b (λ var x bound. subst (λ row. binding row var ≡ Some x) same bound))

module _ {W Y V X : Type 0} (names : Interpretation W Y) (interpretation : Interpretation V X) (value : W → V) (triple : Y → X) (naming : IsNaming names interpretation value triple)
    (n : ℕ) (tree : List TreeNode) (family : Family Y) where
  -- ---- from names to what they name

  becomes_named : (name : Row W) (place : Place) (v : W) (x : V) → x ≡ value v → Becomes names name place v → Becomes interpretation (named_row value name) place x
  becomes_named name (places.Var var) v x is becomes = binding_named value name var.0 ∙ ap (option_map value) becomes ∙ ap (λ x. Some x) (sym is)
  becomes_named name (places.Term text) v x is becomes = subst (λ x. IsTrue (interpretation.stands_for x text)) (sym is) (subst IsTrue (naming.stands_for v text) becomes)

  makes_named : (name : Row W) (pattern : TriplePat) (y : Y) → Makes names name pattern y → Makes interpretation (named_row value name) pattern (triple y)
  makes_named name pattern y makes = record {
    subject = becomes_named name pattern.subject (names.subject y) (interpretation.subject (triple y)) (naming.subject y) makes.subject;
    predicate = becomes_named name pattern.predicate (names.predicate y) (interpretation.predicate (triple y)) (naming.predicate y) makes.predicate;
    object = becomes_named name pattern.object (names.object y) (interpretation.object (triple y)) (naming.object y) makes.object;
  }

  partial_named : (set : ℕ → Bool) (name : Row W) → IsPartialSolution names n tree family set name → IsPartialSolution interpretation n tree (named_family triple family) set (named_row value name)
  partial_named set name solution = record {
    rooted = solution.rooted;
    solves = record {
      width = length-map name (option_map value) ∙ solution.solves.width;
      binds = λ var. (
        λ some. (solution.solves.binds var).0 ((some_same value (binding name var)).0 (subst IsSome (binding_named value name var) some)),
        λ among. subst IsSome (sym (binding_named value name var)) ((some_same value (binding name var)).1 ((solution.solves.binds var).1 among)),
      );
      made = All-weaker (λ pattern. Any (Makes names name pattern) (family pattern)) (λ pattern. Any (Makes interpretation (named_row value name) pattern) (named_family triple family pattern)) made (patterns_of tree set) solution.solves.made;
    };
  } where
    made : (pattern : TriplePat) → Any (Makes names name pattern) (family pattern) → Any (Makes interpretation (named_row value name) pattern) (named_family triple family pattern)
    made pattern a =
        let at = Contains-map triple (family pattern) a.1 (a.0, a.2, a.3) in
        (at.0, triple a.1, at.1, at.2, makes_named name pattern a.1 a.4)

  -- ---- from what is named to names

  module _ (apart : TellsApart names value tree family) where
    becomes_name : (name : Row W) (place : Place) (v : W) (x : V) → x ≡ value v →
        ((var : ℕ) (w : W) → IsVar place var → binding name var ≡ Some w → value w ≡ value v → w ≡ v) →
        Becomes interpretation (named_row value name) place x → Becomes names name place v
    becomes_name name (places.Var var) v x is one becomes =
        let found = named_some value (binding name var.0) x (sym (binding_named value name var.0) ∙ becomes) in
        found.1 ∙ ap (λ v. Some v) (one var.0 found.0 refl found.1 (found.2 ∙ is))
    becomes_name name (places.Term text) v x is one becomes = subst IsTrue (sym (naming.stands_for v text)) (subst (λ x. IsTrue (interpretation.stands_for x text)) is becomes)

    -- what the names of a row are taken from
    abbrev Taken : ℕ → W → Type 0
    Taken var v = IsTaken names value n tree family var v

    makes_name : (name : Row W) → ((var : ℕ) (v : W) → binding name var ≡ Some v → Taken var v) → (k : ℕ) (pattern : TriplePat) (y : Y) → StandsAt tree k pattern → Contains (family pattern) y →
        Makes interpretation (named_row value name) pattern (triple y) → Makes names name pattern y
    makes_name name taken k pattern y stands among makes = record {
      subject = becomes_name name pattern.subject (names.subject y) (interpretation.subject (triple y)) (naming.subject y)
          (λ var w is bound same. one var w (names.subject y) bound (inl (is, refl)) same) makes.subject;
      predicate = becomes_name name pattern.predicate (names.predicate y) (interpretation.predicate (triple y)) (naming.predicate y)
          (λ var w is bound same. one var w (names.predicate y) bound (inr (inl (is, refl))) same) makes.predicate;
      object = becomes_name name pattern.object (names.object y) (interpretation.object (triple y)) (naming.object y)
          (λ var w is bound same. one var w (names.object y) bound (inr (inr (is, refl))) same) makes.object;
    } where
      one : (var : ℕ) (w v : W) → binding name var ≡ Some w → TakesValue names pattern y var v → value w ≡ value v → w ≡ v
      one var w v bound takes same =
          taken_one names value n tree family apart var w v (taken var w bound) (record { node = k; pattern = pattern; item = y; stands = stands; among = among; takes = takes }) same

    -- the row of a partial solution over what is named is a row of names, named
    from_named : (set : ℕ → Bool) (row : Row V) → IsPartialSolution interpretation n tree (named_family triple family) set row →
        (name : Row W) × IsPartialSolution names n tree family set name × (named_row value name ≡ row)
    from_named set row solution = (
      named.0,
      record {
        rooted = solution.rooted;
        solves = record {
          width = sym (length-map named.0 (option_map value)) ∙ ap (λ row. length row) named.1 ∙ solution.solves.width;
          binds = λ var. (
            λ some. (solution.solves.binds var).0 (subst (λ row. IsSome (binding row var)) named.1 (subst IsSome (sym (binding_named value named.0 var)) ((some_same value (binding named.0 var)).1 some))),
            λ among. (some_same value (binding named.0 var)).0 (subst IsSome (binding_named value named.0 var) (subst (λ row. IsSome (binding row var)) (sym named.1) ((solution.solves.binds var).1 among))),
          );
          made = made;
        };
      },
      named.1,
    ) where
      taken : (var : ℕ) (x : V) → binding row var ≡ Some x → (name : W) × Taken var name × (value name ≡ x)
      taken var x bound =
          let from = bound_taken interpretation (λ x. x) n tree (named_family triple family) set row solution var x bound in
          let y = map-Contains triple (family from.pattern) from.item from.among in
          let takes = subst (λ item. TakesValue interpretation from.pattern item var x) (sym y.2) from.takes in
          let name = name_taken from.pattern y.0 var x takes in
          (name.0, record { node = from.node; pattern = from.pattern; item = y.0; stands = from.stands; among = y.1; takes = name.1 }, name.2) where
            name_taken : (pattern : TriplePat) (y : Y) (var : ℕ) (x : V) → TakesValue interpretation pattern (triple y) var x → (name : W) × TakesValue names pattern y var name × (value name ≡ x)
            name_taken pattern y var x (inl at) = (names.subject y, inl (at.0, refl), sym (naming.subject y) ∙ sym at.1)
            name_taken pattern y var x (inr (inl at)) = (names.predicate y, inr (inl (at.0, refl)), sym (naming.predicate y) ∙ sym at.1)
            name_taken pattern y var x (inr (inr at)) = (names.object y, inr (inr (at.0, refl)), sym (naming.object y) ∙ sym at.1)

      named : (name : Row W) × (named_row value name ≡ row) × ((var : ℕ) (v : W) → binding name var ≡ Some v → Taken var v)
      named = names_for value Taken row taken

      made : All (λ pattern. Any (Makes names named.0 pattern) (family pattern)) (patterns_of tree set)
      made i d low =
          let pattern = get_or (patterns_of tree set) i d in
          let there = patterns_of-stands tree set pattern (Contains-get_or (patterns_of tree set) i d low) in
          let a = solution.solves.made i d low in
          let y = map-Contains triple (family pattern) a.1 (a.0, a.2, a.3) in
          let makes = makes_name named.0 named.2 there.0 pattern y.0 there.1 y.1
          (subst (λ row. Makes interpretation row pattern (triple y.0)) (sym named.1) (subst (Makes interpretation row pattern) (sym y.2) a.4)) in
          (y.1.0, y.0, y.1.1, y.1.2, makes)

    pub partial_exactly : (row : Row V) → IsPartialRow interpretation n tree (named_family triple family) row ↔ ((name : Row W) × IsPartialRow names n tree family name × (named_row value name ≡ row))
    partial_exactly row = (
      λ is. (let from = from_named is.0 row is.1 in (from.0, (is.0, from.1), from.2)),
      λ is. subst (IsPartialRow interpretation n tree (named_family triple family)) is.2 (is.1.0, partial_named is.1.0 is.0 is.1.1),
    )

    named_extends : (name other : Row W) → Extends name other → Extends (named_row value name) (named_row value other)
    named_extends name other extends var x bound =
        let found = named_some value (binding other var) x (sym (binding_named value other var) ∙ bound) in
        binding_named value name var ∙ ap (option_map value) (extends var found.0 found.1) ∙ ap (λ x. Some x) found.2

    more_named : (name other : Row W) → BindsMore (named_row value name) (named_row value other) → BindsMore name other
    more_named name other more = (
      more.0,
      (some_same value (binding name more.0)).0 (subst IsSome (binding_named value name more.0) more.1),
      named_none value (binding other more.0) (sym (binding_named value other more.0) ∙ more.2),
    )

    named_more : (name other : Row W) → BindsMore name other → BindsMore (named_row value name) (named_row value other)
    named_more name other more = (
      more.0,
      subst IsSome (sym (binding_named value name more.0)) ((some_same value (binding name more.0)).1 more.1),
      binding_named value other more.0 ∙ ap (option_map value) more.2,
    )

    pub maximal_exactly : (row : Row V) → IsMaximalRow interpretation n tree (named_family triple family) row ↔ ((name : Row W) × IsMaximalRow names n tree family name × (named_row value name ≡ row))
    maximal_exactly row = (to, λ is. subst (IsMaximalRow interpretation n tree (named_family triple family)) is.2 (from is.0 is.1)) where
      to : IsMaximalRow interpretation n tree (named_family triple family) row → (name : Row W) × IsMaximalRow names n tree family name × (named_row value name ≡ row)
      to is =
          let own = (partial_exactly row).0 is.partial in (
            own.0,
            record {
              partial = own.1;
              maximal = λ other partial extends more.
                  is.maximal (named_row value other) ((partial_exactly (named_row value other)).1 (other, partial, refl))
                  (subst (Extends (named_row value other)) own.2 (named_extends other own.0 extends))
                  (subst (BindsMore (named_row value other)) own.2 (named_more other own.0 more));
            },
            own.2,
          )

      from : (name : Row W) → IsMaximalRow names n tree family name → IsMaximalRow interpretation n tree (named_family triple family) (named_row value name)
      from name is = record {
        partial = (partial_exactly (named_row value name)).1 (name, is.partial, refl);
        maximal = λ other partial extends more.
            let own = (partial_exactly other).0 partial in
            is.maximal own.0 own.1
            (extends_names names value n tree family apart name own.0 is.partial own.1 (subst (λ row. Extends row (named_row value name)) (sym own.2) extends))
            (more_named own.0 name (subst (λ row. BindsMore row (named_row value name)) (sym own.2) more));
      }
