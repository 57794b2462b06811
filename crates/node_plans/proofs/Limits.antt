-- The triple patterns of a tree keep the limits of a query.
use Rattle.std.proofs.Common.{◌≡◌, ◌<◌, ◌≤◌, ◌++◌, ℕ, zero, suc, inl, inr, List, [], length, map, Some, None, get_or, Contains, refl, sym, ◌∙◌, ap, subst, arith}
use Rattle.std.specs.Prelude.{slice_get}
use Rattle.std.specs.Option.{option_map}
use Rattle.std.proofs.Math.Bridge.{le_prop}
use Rattle.std.proofs.Math.Logic.{∥∥₁_elim}
use Rattle.std.proofs.lemmas.List.{length-append}
use Rattle.std.proofs.lemmas.Option.{slice_get-get_or}
use Rattle.std.proofs.lemmas.List.Elements.{All-contains, Contains-append_cases}
use Rattle.alg_model.specs.declared.pattern.Place.{Place}
use Rattle.alg_model.specs.declared.pattern.Place.TheVariants as places
use Rattle.alg_model.specs.declared.pattern.TriplePat.{TriplePat}
use Rattle.alg_model.specs.Limits.{max_variables, PatternKeepsLimits}
use Rattle.alg_model.specs.Pattern.{Algebra, Bgp, Join, LeftJoin, triple_patterns}
use Rattle.alg_model.specs.VarSet.{PlaceFits, TripleFits, PatternFits}
use Rattle.alg_model.proofs.VarSets.{pattern_fits}
use Rattle.node_plans.specs.Placed.{IsPlaced, HasEdge}
use Rattle.pattern_tree.specs.PatternTree.{IsPatternTree}
use Rattle.pattern_tree.specs.Standing.{StandsAt}
use Rattle.pattern_tree.specs.Tree.{TreeNode, root_patterns, moved, hung, nodes_below, tree_of}
use Rattle.pruning_laws.specs.Plans.{IsEdge}
use Rattle.pattern_tree.proofs.Nodes.{at_either, from_map}
use Rattle.pattern_tree.proofs.Numbered.{number_between, numbered_patterns}
use Rattle.pattern_tree.proofs.Standing.{stands-listed}

-- ---- each triple pattern

-- its variables have room in a word
fits_listed : (pattern : Algebra) → PatternFits pattern → (p : TriplePat) → Contains (triple_patterns pattern) p → TripleFits p
fits_listed (Bgp list) fits p at = All-contains TripleFits list p fits at
fits_listed (Join left right) fits p at = elim (Contains-append_cases (triple_patterns left) (triple_patterns right) p at) as (λ _. TripleFits p) [
  | inl there ↦ fits_listed left fits.0 p there
  | inr there ↦ fits_listed right fits.1 p there
]
fits_listed (LeftJoin left right) fits p at = elim (Contains-append_cases (triple_patterns left) (triple_patterns right) p at) as (λ _. TripleFits p) [
  | inl there ↦ fits_listed left fits.0 p there
  | inr there ↦ fits_listed right fits.1 p there
]

placed_listed : (pattern : Algebra) → PatternKeepsLimits max_variables pattern → (p : TriplePat) → Contains (triple_patterns pattern) p → IsPlaced p
placed_listed pattern keeps p at =
    let between = number_between 1 (triple_patterns pattern) p (numbered_patterns max_variables pattern keeps) at in
    let few = keeps.few_triples in
    record {
      fits = fits_listed pattern (pattern_fits pattern keeps.vars_below) p at;
      some = omega (arith, between.0);
      low = omega (arith, between.1);
    }

placed_tree : (tree : List TreeNode) → IsPatternTree tree → (k : ℕ) (p : TriplePat) → StandsAt tree k p → IsPlaced p
placed_tree tree is k p stands = placed_listed is.pattern is.keeps_limits p (stands-listed is.pattern k p (subst (λ tree. StandsAt tree k p) is.is stands))

-- whether a place has room is one fact
fits_prop : (place : Place) (a b : PlaceFits place) → a ≡ b
fits_prop (places.Var var) a b = le_prop a b
fits_prop (places.Term text) a b = refl

pub placed_stands : (tree : List TreeNode) → ∥ IsPatternTree tree ∥₁ → (k : ℕ) (p : TriplePat) → StandsAt tree k p → IsPlaced p
placed_stands tree is k p stands = record {
  fits = record {
    subject = ∥∥₁_elim is (fits_prop p.subject) (λ is. (placed_tree tree is k p stands).fits.subject);
    predicate = ∥∥₁_elim is (fits_prop p.predicate) (λ is. (placed_tree tree is k p stands).fits.predicate);
    object = ∥∥₁_elim is (fits_prop p.object) (λ is. (placed_tree tree is k p stands).fits.object);
  };
  some = ∥∥₁_elim is le_prop (λ is. (placed_tree tree is k p stands).some);
  low = ∥∥₁_elim is le_prop (λ is. (placed_tree tree is k p stands).low);
}

-- ---- how many a node has

few_root : (pattern : Algebra) → length (root_patterns pattern) ≤ length (triple_patterns pattern)
few_root (Bgp list) = omega arith
few_root (Join left right) =
    omega (arith, few_root left, few_root right, length-append (root_patterns left) (root_patterns right), length-append (triple_patterns left) (triple_patterns right))
few_root (LeftJoin left right) = omega (arith, few_root left, length-append (triple_patterns left) (triple_patterns right))

few_at : (pattern : Algebra) (k : ℕ) (node : TreeNode) → slice_get (tree_of pattern) k ≡ Some node → length node.patterns ≤ length (triple_patterns pattern)
few_at (Bgp list) zero node is = let root : list ≡ node.patterns = cc in omega (arith, ap length root)
few_at (Bgp list) (suc k) node is = cc
few_at (Join left right) zero node is =
    let root : root_patterns left ++ root_patterns right ≡ node.patterns = cc in
    omega (arith, ap length root, few_root (Join left right))
few_at (Join left right) (suc k) node is =
    let d = length (nodes_below left) in
    let both = length-append (triple_patterns left) (triple_patterns right) in
    elim (at_either (nodes_below left) (map (moved d) (nodes_below right)) k node is) as (λ _. length node.patterns ≤ length (triple_patterns left ++ triple_patterns right)) [
      | inl front ↦ omega (arith, few_at left (suc k) node front.1)
      | inr back ↦
          let from = from_map (moved d) (nodes_below right) back.0 node back.2 in
          let same : from.0.patterns ≡ node.patterns = ap (λ node. node.patterns) from.2 in
          omega (arith, ap length same, few_at right (suc back.0) from.0 from.1)
    ]
few_at (LeftJoin left right) zero node is =
    let root : root_patterns left ≡ node.patterns = cc in
    omega (arith, ap length root, few_root (LeftJoin left right))
few_at (LeftJoin left right) (suc k) node is =
    let d = length (nodes_below left) in
    let both = length-append (triple_patterns left) (triple_patterns right) in
    elim (at_either (nodes_below left) (map (hung d) (tree_of right)) k node is) as (λ _. length node.patterns ≤ length (triple_patterns left ++ triple_patterns right)) [
      | inl front ↦ omega (arith, few_at left (suc k) node front.1)
      | inr back ↦
          let from = from_map (hung d) (tree_of right) back.0 node back.2 in
          let same : from.0.patterns ≡ node.patterns = ap (λ node. node.patterns) from.2 in
          omega (arith, ap length same, few_at right back.0 from.0 from.1)
    ]

few_tree : (tree : List TreeNode) → IsPatternTree tree → (k : ℕ) (node : TreeNode) → slice_get tree k ≡ Some node → length node.patterns ≤ 256
few_tree tree is k node at =
    let few = is.keeps_limits.few_triples in
    omega (arith, few_at is.pattern k node (subst (λ tree. slice_get tree k ≡ Some node) is.is at))

pub few_patterns : (tree : List TreeNode) → ∥ IsPatternTree tree ∥₁ → (k : ℕ) (node : TreeNode) → slice_get tree k ≡ Some node → length node.patterns ≤ 256
few_patterns tree is k node at = ∥∥₁_elim is le_prop (λ is. few_tree tree is k node at)

-- ---- a node by its number

-- the node is there
pub node_there : (tree : List TreeNode) (k : ℕ) → k < length tree → (node : TreeNode) × (slice_get tree k ≡ Some node)
node_there tree k low = (get_or tree k (record { parent = None; patterns = [] }), slice_get-get_or tree k (record { parent = None; patterns = [] }) low)

-- and has these triple patterns
pub patterns_there : (tree : List TreeNode) (k : ℕ) (patterns : List TriplePat) (node : TreeNode) → option_map (λ node. node.patterns) (slice_get tree k) ≡ Some patterns → slice_get tree k ≡ Some node → patterns ≡ node.patterns
patterns_there tree k patterns node told is =
    let of_node : option_map (λ (node : TreeNode). node.patterns) (slice_get tree k) ≡ Some node.patterns = ap (option_map (λ node. node.patterns)) is in
    let same : Some patterns ≡ Some node.patterns = sym told ∙ of_node in
    cc

-- an edge of the node is one of its triple patterns
pub from_edge : (tree : List TreeNode) (k : ℕ) (patterns : List TriplePat) (p v : ℕ) → ((node : TreeNode) → slice_get tree k ≡ Some node → patterns ≡ node.patterns) → IsEdge tree k p v → HasEdge patterns p v
from_edge tree k patterns p v are edge =
    let s = edge.stands in
    record { pattern = edge.pattern; among = subst (λ list. Contains list edge.pattern) (sym (are s.node s.stands)) s.among; entry = edge.entry; has = edge.has }

pub to_edge : (tree : List TreeNode) (k : ℕ) (patterns : List TriplePat) (p v : ℕ) → ((node : TreeNode) → slice_get tree k ≡ Some node → patterns ≡ node.patterns) → k < length tree → HasEdge patterns p v → IsEdge tree k p v
to_edge tree k patterns p v are low edge =
    let there = node_there tree k low in
    record {
      pattern = edge.pattern;
      stands = record { node = there.0; stands = there.1; among = subst (λ list. Contains list edge.pattern) (are there.0 there.1) edge.among };
      entry = edge.entry;
      has = edge.has;
    }
