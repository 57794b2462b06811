-- In a node that is a forest, each triple of a consistent family of matches is part of a row that solves the node. The
-- node stands alone, as a scene of one node.
use Rattle.std.proofs.Common.{◌≡◌, ◌↔◌, inl, inr, ℕ, ◌<◌, ◌++◌, List, [], ◌∷◌, length, get_or, map, Contains, Some, None, refl, sym, ◌∙◌, ap, subst, arith}
use Rattle.std.specs.List.{range_with_len}
use Rattle.std.specs.Prelude.{slice_get}
use Rattle.std.proofs.lemmas.List.{get_or-map, get_or_default, length-map}
use Rattle.std.proofs.lemmas.List.Elements.{Contains-get_or, Contains-append_left, Contains-append_right}
use Rattle.std.proofs.lemmas.List.FromFn.{length-map-range_with_len, get_or-map-range_with_len}
use Rattle.bm_term.proofs.Elements.{Contains-head, Contains-nil}
use Rattle.alg_model.specs.declared.pattern.Place.{Place}
use Rattle.alg_model.specs.declared.pattern.Place.TheVariants as places
use Rattle.alg_model.specs.declared.pattern.TriplePat.{TriplePat}
use Rattle.alg_model.specs.Row.{Row, binding}
use Rattle.alg_model.specs.Pattern.{IsVar, place_vars, triple_vars}
use Rattle.alg_model.specs.Eval.{Interpretation}
use Rattle.alg_model.specs.Solution.{BindsJust, Becomes, Makes}
use Rattle.alg_model.proofs.Cells.{IsSome-from_value}
use Rattle.alg_model.proofs.Joins.{cut, width-cut, cut_inside, cut_binds}
use Rattle.alg_model.proofs.Lists.{Contains-flat_map, source-flat_map}
use Rattle.alg_model.proofs.Width.{HasWidth}
use Rattle.join_graph.specs.Core.{IsForest}
use Rattle.join_graph.specs.Members.{PatternHas}
use Rattle.pattern_tree.specs.Consistent.{TakesValue, IsConsistent}
use Rattle.pattern_tree.specs.Solution.{Family, IsSolutionOf}
use Rattle.pattern_tree.specs.Standing.{StandsAt, itself}
use Rattle.pattern_tree.specs.Tree.{TreeNode}
use Rattle.pattern_tree.proofs.Choices.{list_vars}
use Rattle.pattern_tree.proofs.Unions.{IsMade}
use Rattle.multiway_join.proofs.Sound.{TreeVarsBelow}
use Rattle.pruning_laws.specs.Matches.{MayStand, IsMatch, AreMatches}
use Rattle.pruning_laws.specs.Passes.{pairs_of}
use Rattle.pruning_laws.specs.Scene.{Scene, columns_at, Has, Gives, StandsIn}
use Rattle.pruning_laws.specs.SceneOf.{columns_of}
use Rattle.pruning_laws.specs.TreePasses.{Holding, are_near}
use Rattle.pruning_laws.proofs.ArcConsistent.{IsArcConsistent, GivesOne}
use Rattle.pruning_laws.proofs.Columns.{has-columns, gives-columns}
use Rattle.pruning_laws.proofs.NodeSolutions.{IsPairing, solve_node}
use Rattle.pruning_laws.proofs.Pairing.{pairing_from_removal}
use Rattle.pruning_laws.proofs.SceneShows.{no_pattern}
use Rattle.minimality_laws.specs.SimpleTree.{sets_of}
use Rattle.minimality_laws.proofs.Removing.{HasRemoval, removal_of}
use Rattle.minimality_laws.proofs.SetVars.{has_at, at_has}

-- ---- the row of some values

-- the row that binds these variables to these values
abbrev pub row_of_values : {V : Type 0} → ℕ → List ℕ → (ℕ → V) → Row V
row_of_values n vars value = cut n vars (map (λ v. Some (value v)) (range_with_len 0 n))

module _ {V : Type 0} (n : ℕ) (vars : List ℕ) (value : ℕ → V) (below : (v : ℕ) → Contains vars v → v < n) where
  abbrev full : Row V
  full = map (λ v. Some (value v)) (range_with_len 0 n)

  full_width : HasWidth n full
  full_width = length-map-range_with_len (λ v. Some (value v)) 0 n

  full_binds : (v : ℕ) → v < n → binding full v ≡ Some (value v)
  full_binds v low = get_or-map-range_with_len (λ v. Some (value v)) 0 n v v None low (omega arith)

  pub values_width : HasWidth n (row_of_values n vars value)
  values_width = width-cut n vars full full_width

  pub values_binds : BindsJust (row_of_values n vars value) vars
  values_binds = cut_binds n vars full full_width (λ v at. IsSome-from_value (binding full v) (value v) (full_binds v (below v at)))

  pub values_bound : (v : ℕ) → Contains vars v → binding (row_of_values n vars value) v ≡ Some (value v)
  values_bound v at = cut_inside n vars full full_width v at ∙ full_binds v (below v at)

-- ---- rows that make a triple pattern a triple

module _ {V X : Type 0} (interpretation : Interpretation V X) where
  becomes_from : (row : Row V) (place : Place) (value : V) → MayStand interpretation place value → ((var : ℕ) → IsVar place var → binding row var ≡ Some value) → Becomes interpretation row place value
  becomes_from row (places.Var var) value may bound = bound var.0 refl
  becomes_from row (places.Term text) value may bound = may

  -- a row that binds each variable to the value that it takes in a match
  pub makes_from : (row : Row V) (pattern : TriplePat) (triple : X) → IsMatch interpretation pattern triple →
      ((var : ℕ) (value : V) → TakesValue interpretation pattern triple var value → binding row var ≡ Some value) → Makes interpretation row pattern triple
  makes_from row pattern triple match bound = record {
    subject = becomes_from row pattern.subject (interpretation.subject triple) match.subject (λ var is. bound var (interpretation.subject triple) (inl (is, refl)));
    predicate = becomes_from row pattern.predicate (interpretation.predicate triple) match.predicate (λ var is. bound var (interpretation.predicate triple) (inr (inl (is, refl))));
    object = becomes_from row pattern.object (interpretation.object triple) match.object (λ var is. bound var (interpretation.object triple) (inr (inr (is, refl))));
  }

  -- a variable of a triple pattern takes each value at a place of its own
  place_var : (place : Place) (var : ℕ) → IsVar place var → Contains (place_vars place) var
  place_var (places.Var v) var is = subst (Contains (v.0 ∷ [])) is (Contains-head v.0 [])
  place_var (places.Term text) var is = absurd is

  pub takes_var : (pattern : TriplePat) (triple : X) (var : ℕ) (value : V) → TakesValue interpretation pattern triple var value → Contains (triple_vars pattern) var
  takes_var pattern triple var value (inl at) = Contains-append_left (place_vars pattern.subject ++ place_vars pattern.predicate) (place_vars pattern.object) var (Contains-append_left (place_vars pattern.subject) (place_vars pattern.predicate) var (place_var pattern.subject var at.0))
  takes_var pattern triple var value (inr (inl at)) = Contains-append_left (place_vars pattern.subject ++ place_vars pattern.predicate) (place_vars pattern.object) var (Contains-append_right (place_vars pattern.subject) (place_vars pattern.predicate) var (place_var pattern.predicate var at.0))
  takes_var pattern triple var value (inr (inr at)) = Contains-append_right (place_vars pattern.subject ++ place_vars pattern.predicate) (place_vars pattern.object) var (place_var pattern.object var at.0)

-- ---- the node as a scene

module _ {V X : Type 0} (interpretation : Interpretation V X) (n : ℕ) (tree : List TreeNode) (family : Family X) (k : ℕ) (node : TreeNode) (place : slice_get tree k ≡ Some node) where
  abbrev scene : Scene V X
  scene = record { patterns = map (columns_of interpretation) node.patterns; nodes = []; parents = [] }

  abbrev at : ℕ → TriplePat
  at p = get_or node.patterns p no_pattern

  abbrev held : Holding X
  held p t = (p < length node.patterns) × Contains (family (at p)) t

  in_node : (p : ℕ) → p < length node.patterns → StandsAt tree k (at p)
  in_node p low = record { node = node; stands = place; among = Contains-get_or node.patterns p no_pattern low }

  in_list : (p : ℕ) → p < length scene.patterns → p < length node.patterns
  in_list p low = omega (arith, low, length-map node.patterns (columns_of interpretation))

  in_scene : (p : ℕ) → p < length node.patterns → p < length scene.patterns
  in_scene p low = omega (arith, low, length-map node.patterns (columns_of interpretation))

  columns : (p : ℕ) → p < length node.patterns → columns_at scene p ≡ columns_of interpretation (at p)
  columns p low = get_or-map (columns_of interpretation) node.patterns p no_pattern [] low

  has_is : (p v : ℕ) → p < length node.patterns → Has scene p v ↔ Contains (triple_vars (at p)) v
  unfolding Has
  has_is p v low = rw (columns p low) (has-columns interpretation (at p) v)

  gives_is : (p : ℕ) (t : X) (v : ℕ) (x : V) → p < length node.patterns → Gives scene p t v x ↔ TakesValue interpretation (at p) t v x
  unfolding Gives
  gives_is p t v x low = rw (columns p low) (gives-columns interpretation interpretation (at p) t t refl refl refl v x)

  module _ (consistent : IsConsistent interpretation tree family) (matches : AreMatches interpretation tree family) where
    arc : IsArcConsistent scene held
    arc = record {
      values = λ p q v x governs has o.
          let low = in_list p governs.exists in
          let low' = o.1.0 in
          let found = consistent.values k k (at q) (at p) o.0 v x (in_node q low') (in_node p low) itself o.1.1 ((gives_is q o.0 v x low').0 o.2) ((has_is p v low).0 has) in
          (found.0, (low, found.1), (gives_is p found.0 v x low).1 found.2);
      filled = λ p q governs f. some p q (in_list p governs.exists) f.1.0 f.0 f.1.1 (family (at p)) refl;
    } where
      some : (p q : ℕ) → p < length node.patterns → q < length node.patterns → (t : X) → Contains (family (at q)) t → (list : List X) → family (at p) ≡ list → (s : X) × held p s
      some p q low low' t there [] e =
          let empty = consistent.emptied k k (at q) (at p) (in_node q low') (in_node p low) itself e in
          absurd (Contains-nil t (subst (λ l. Contains l t) empty there))
      some p q low low' t there (s ∷ list) e = (s, (low, subst (λ l. Contains l s) (sym e) (Contains-head s list)))

    one : GivesOne scene held
    one p t v x y h gives gives' =
        (matches k (at p) t (in_node p h.0) h.1).one v x y ((gives_is p t v x h.0).0 gives) ((gives_is p t v y h.0).0 gives')

    pairing : (has : HasRemoval (sets_of node)) → IsPairing scene 0 (pairs_of (are_near (sets_of node)) has.steps)
    pairing has = pairing_from_removal scene 0 (sets_of node) same has.steps has.removal has.all where
      same : (p v : ℕ) → PatternHas (sets_of node) p v ↔ (StandsIn scene p 0 × Has scene p v)
      same p v = (
        λ h. (let a = has_at node.patterns no_pattern p v h in ((in_scene p a.0, refl), (has_is p v a.0).1 a.1)),
        λ h. (let low = in_list p h.0.0 in at_has node.patterns no_pattern p v low ((has_is p v low).0 h.1)),
      )

    -- a row that solves the node, and makes a triple pattern of it this triple
    pub record HasNodeRow (pattern : TriplePat) (triple : X) : Type 0 where
      pub row : Row V
      pub solves : IsSolutionOf interpretation n family node.patterns row
      pub makes : Makes interpretation row pattern triple

    module _ (few : TreeVarsBelow n tree) (forest : IsForest (sets_of node)) where
      below : (v : ℕ) → Contains (list_vars node.patterns) v → v < n
      below v among =
          let from = source-flat_map triple_vars node.patterns v among in
          few k from.0 v (record { node = node; stands = place; among = from.1 }) from.2

      node_row_at : (p0 : ℕ) (t0 : X) → p0 < length node.patterns → Contains (family (at p0)) t0 → HasNodeRow (at p0) t0
      node_row_at p0 t0 low among =
          let has = removal_of node.patterns no_pattern forest in
          let nothing = interpretation.subject t0 in
          let solution = solve_node scene held arc one 0 (pairs_of (are_near (sets_of node)) has.steps) (pairing has) p0 t0 (in_scene p0 low, refl) (low, among) nothing in
          let row = row_of_values n (list_vars node.patterns) solution.value in
          let bound = values_bound n (list_vars node.patterns) solution.value below in
          let makes = λ (p : ℕ) (t : X) (low : p < length node.patterns) (there : Contains (family (at p)) t) (from : (v : ℕ) (x : V) → Gives scene p t v x → solution.value v ≡ x).
          makes_from interpretation row (at p) t (matches k (at p) t (in_node p low) there)
          (λ v x takes. bound v (Contains-flat_map triple_vars node.patterns (at p) v (Contains-get_or node.patterns p no_pattern low) (takes_var interpretation (at p) t v x takes))
          ∙ ap (λ x. Some x) (from v x ((gives_is p t v x low).1 takes))) in
          record {
            row = row;
            solves = record {
              width = values_width n (list_vars node.patterns) solution.value below;
              binds = values_binds n (list_vars node.patterns) solution.value below;
              made = λ p d low.
                  let s = solution.solves p (in_scene p low, refl) in
                  let there = s.1.1 in
                  subst (IsMade interpretation n family row) (get_or_default node.patterns p no_pattern d low)
                  (there.0, s.0, there.1, there.2, makes p s.0 low there s.2);
            };
            makes = makes p0 t0 low among solution.from;
          }

      pub node_row : (pattern : TriplePat) (triple : X) → Contains node.patterns pattern → Contains (family pattern) triple → HasNodeRow pattern triple
      node_row pattern triple among there =
          let same : at among.0 ≡ pattern = get_or_default node.patterns among.0 no_pattern pattern among.1 ∙ among.2 in
          subst (λ p. HasNodeRow p triple) same (node_row_at among.0 triple among.1 (subst (λ p. Contains (family p) triple) (sym same) there))
