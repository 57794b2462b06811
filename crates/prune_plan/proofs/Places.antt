-- Where triple patterns of a tree have their entries, and where parents stand.
use Rattle.std.proofs.Common.{◌≡◌, ◌⊎◌, ◌↔◌, inl, inr, ℕ, zero, suc, ◌<◌, ◌++◌, List, ◌∷◌, length, Option, Some, None, Contains, refl, sym, ◌∙◌, ap, subst, arith}
use Rattle.std.specs.Prelude.{slice_get}
use Rattle.std.specs.Option.{option_map}
use Rattle.std.proofs.Math.Bridge.{le_prop}
use Rattle.std.proofs.Math.Logic.{∥∥₁_elim}
use Rattle.std.proofs.lemmas.List.Elements.{Contains-append_cases}
use Rattle.std.proofs.lemmas.Option.{slice_get_within}
use Rattle.alg_model.specs.declared.pattern.Place.{Place}
use Rattle.alg_model.specs.declared.pattern.Place.TheVariants as places
use Rattle.alg_model.specs.declared.pattern.TriplePat.{TriplePat}
use Rattle.alg_model.specs.Pattern.{IsVar, place_vars, triple_vars}
use Rattle.bm_term.proofs.Elements.{Contains-nil, Contains-single}
use Rattle.node_plans.proofs.Limits.{node_there}
use Rattle.pattern_tree.specs.PatternTree.{IsPatternTree}
use Rattle.pattern_tree.specs.Tree.{TreeNode, root_patterns, nodes_below, tree_of}
use Rattle.pattern_tree.proofs.Nodes.{below-HasParent}
use Rattle.pruning_laws.specs.Plans.{IsEdge}
use Rattle.pruning_laws.specs.Shown.{entry_of}
use Rattle.tree_relations.specs.declared.prepared.PlaceKind.{PlaceKind}
use Rattle.tree_relations.specs.declared.prepared.PlaceKind.TheVariants.{Subject, Object, Predicate}
use Rattle.tree_relations.specs.declared.prepared.Prepared.{Prepared}
use Rattle.tree_relations.specs.Fits.{place_at, FitsTree}
use Rattle.mask_steps.specs.Held.{MayMeet, IsVarAt}
use Rattle.prune_plan.specs.Accepted.{HasNoCrossPlace}
use Rattle.prune_plan.specs.steps.Nodes.{HasPlace, IsParent}

-- ---- variables at sides

place_is : (place : Place) (v : ℕ) → Contains (place_vars place) v → IsVar place v
place_is (places.Var var) v at = Contains-single var.0 v at
place_is (places.Term text) v at = absurd (Contains-nil v at)

-- a variable of a triple pattern stands at a place of some kind
pub stands_somewhere : (pattern : TriplePat) (v : ℕ) → Contains (triple_vars pattern) v → (kind : PlaceKind) × IsVar (place_at kind pattern) v
stands_somewhere pattern v at = elim (Contains-append_cases (place_vars pattern.subject ++ place_vars pattern.predicate) (place_vars pattern.object) v at) as (λ _. (kind : PlaceKind) × IsVar (place_at kind pattern) v) [
  | inl front ↦ elim (Contains-append_cases (place_vars pattern.subject) (place_vars pattern.predicate) v front) as (λ _. (kind : PlaceKind) × IsVar (place_at kind pattern) v) [
    | inl h ↦ (Subject, place_is pattern.subject v h)
    | inr h ↦ (Predicate, place_is pattern.predicate v h)
  ]
  | inr h ↦ (Object, place_is pattern.object v h)
]

-- no variable stands at a predicate place and at a node place
pub may_meet : (pattern : TriplePat) (v : ℕ) → (IsVar pattern.predicate v → ¬ (IsVar pattern.subject v ⊎ IsVar pattern.object v)) →
    (a b : PlaceKind) → IsVar (place_at a pattern) v → IsVar (place_at b pattern) v → MayMeet a b
may_meet pattern v apart Predicate Predicate first second = (λ e. e, λ e. e)
may_meet pattern v apart Predicate Subject first second = absurd (apart first (inl second))
may_meet pattern v apart Predicate Object first second = absurd (apart first (inr second))
may_meet pattern v apart Subject Predicate first second = absurd (apart second (inl first))
may_meet pattern v apart Object Predicate first second = absurd (apart second (inr first))
may_meet pattern v apart Subject Subject first second = (λ e. e, λ e. e)
may_meet pattern v apart Subject Object first second = (λ e. absurd (cc e), λ e. absurd (cc e))
may_meet pattern v apart Object Subject first second = (λ e. absurd (cc e), λ e. absurd (cc e))
may_meet pattern v apart Object Object first second = (λ e. e, λ e. e)

module _ (tree : List TreeNode) (p : Prepared) (fits : FitsTree tree p) where
  -- a triple pattern has its entry
  pub has_entry : (k i : ℕ) → HasPlace tree k i → i < length p.entries
  has_entry k i place =
      let found = fits.entries k place.0 place.1 in
      subst (λ i. i < length p.entries) place.2 (slice_get_within p.entries (entry_of place.0) found.0 found.1.at)

  pub edge_is_var : HasNoCrossPlace tree → (k i v : ℕ) → IsEdge tree k i v → IsVarAt p i v
  edge_is_var accepted k i v edge =
      let pattern = edge.pattern in
      let found = fits.entries k pattern edge.stands in
      let some = stands_somewhere pattern v edge.has in
      record {
        entry = found.0;
        at = subst (λ i. slice_get p.entries i ≡ Some found.0) edge.entry found.1.at;
        some = (some.0, (found.1.sides some.0 v).0 some.1);
        meet = λ a b first second. may_meet pattern v (accepted k k pattern pattern v edge.stands edge.stands) a b ((found.1.sides a v).1 (inl first)) ((found.1.sides b v).1 (inr second));
      }

-- ---- parents

first_there : (pattern : TreeNode) (nodes : List TreeNode) (node : TreeNode) (parent : ℕ) → pattern.parent ≡ None → slice_get (pattern ∷ nodes) 0 ≡ Some node → node.parent ≡ Some parent → ⊥
first_there root nodes node parent none is has = let same : root ≡ node = cc in let both : None ≡ Some parent = sym none ∙ ap (λ node. node.parent) same ∙ has in cc

before : (tree : List TreeNode) (is : IsPatternTree tree) (k parent : ℕ) → IsParent tree k parent → parent < k
before tree is k parent hangs = by k (subst (λ tree. slice_get tree k ≡ Some hangs.0) is.is hangs.1) where
  by : (k : ℕ) → slice_get (tree_of is.pattern) k ≡ Some hangs.0 → parent < k
  by zero at = absurd (first_there (record { parent = None; patterns = root_patterns is.pattern }) (nodes_below is.pattern) hangs.0 parent refl at hangs.2)
  by (suc k) at =
      let up = below-HasParent is.pattern k hangs.0 at in
      let same : Some up.parent ≡ Some parent = sym up.is ∙ hangs.2 in
      let e : up.parent ≡ parent = cc in
      let low = up.low in
      omega (arith, e, low)

pub parent_before : (tree : List TreeNode) → ∥ IsPatternTree tree ∥₁ → (k parent : ℕ) → IsParent tree k parent → parent < k
parent_before tree is k parent hangs = ∥∥₁_elim is le_prop (λ is. before tree is k parent hangs)

-- a node has one parent
pub one_parent : (tree : List TreeNode) (k parent other : ℕ) → IsParent tree k parent → IsParent tree k other → parent ≡ other
one_parent tree k parent other a b =
    let node : a.0 ≡ b.0 = cc (a.1, b.1) in
    let same : Some parent ≡ Some other = sym a.2 ∙ ap (λ node. node.parent) node ∙ b.2 in
    cc

-- and it is told
pub told_parent : (tree : List TreeNode) (k : ℕ) (told : Option ℕ) → k < length tree → option_map (λ node. node.parent) (slice_get tree k) ≡ Some told → (parent : ℕ) → IsParent tree k parent ↔ (told ≡ Some parent)
told_parent tree k told low is parent =
    let there = node_there tree k low in
    let by : Some told ≡ Some there.0.parent = sym is ∙ ap (option_map (λ (node : TreeNode). node.parent)) there.1 in
    let same : told ≡ there.0.parent = cc in (
      λ hangs. (let one : there.0 ≡ hangs.0 = cc (there.1, hangs.1) in same ∙ ap (λ node. node.parent) one ∙ hangs.2),
      λ e. (there.0, there.1, sym same ∙ e),
    )
