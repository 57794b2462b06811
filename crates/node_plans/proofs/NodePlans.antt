-- The pairs of a node: that they are a plan of it, and what each pair is.
use Rattle.std.proofs.Common.{◌≡◌, inl, inr, ◌<◌, ◌≤◌, ℕ, Bool, true, List, [], ◌∷◌, length, Some, None, Contains, refl, ap, subst, arith, eqb-true}
use Rattle.std.specs.Int.{bit_at}
use Rattle.std.specs.Prelude.{slice_get, slice_index}
use Rattle.std.proofs.lemmas.Bool.{cases_lt}
use Rattle.alg_model.specs.declared.pattern.TriplePat.{TriplePat}
use Rattle.alg_model.specs.Pattern.{triple_vars}
use Rattle.alg_model.proofs.Lists.{Contains-flat_map, source-flat_map}
use Rattle.bm_term.proofs.Elements.{Contains-nil, Contains-cons_cases}
use Rattle.join_graph.specs.declared.steps.Step.TheVariants.{Pattern, Variable}
use Rattle.join_graph.specs.Core.{neighbours_in, passing, core_of, IsForest}
use Rattle.join_graph.specs.Left.{IsInRange}
use Rattle.join_graph.specs.Members.{Member, PatternHas, IsMember, IsNeighbour}
use Rattle.join_graph.specs.Removal.{IsRemoval, RemovesAll}
use Rattle.join_graph.specs.Sets.{HasTwo, HasSize}
use Rattle.join_graph.proofs.Sizes.{HasSize-empty, HasSize-some}
use Rattle.node_plans.specs.NodePlan.{AreSetsOf, IsForestNode, IsByRemoval, IsNodePair, IsWithinLimits, HasLowEdges}
use Rattle.node_plans.specs.Placed.{pattern_edges, edges_of}
use Rattle.node_plans.proofs.Limits.{from_edge, to_edge}
use Rattle.node_plans.proofs.StepSizes.{few_steps}
use Rattle.pattern_tree.specs.Tree.{TreeNode}
use Rattle.pattern_tree.proofs.Pruning.{Contains-map, map-Contains}
use Rattle.pruning_laws.specs.Passes.{partner, with_partner, pairs_of}
use Rattle.pruning_laws.specs.Plans.{IsEdge, pairs_by, IsEdgePair, AreEdges}
use Rattle.pruning_laws.specs.Shown.{entry_of}
use Rattle.pruning_laws.specs.TreePasses.{are_near}
use Rattle.pruning_laws.proofs.Pairing.{partner-source}

-- ---- forests

-- an empty core has no member, and a forest has an empty core
pub core_is_empty : (sets : List ℕ) (core : ℕ) → HasSize (core_of sets) core → core ≡ 0 → IsForest sets
unfolding IsForest
core_is_empty sets core size is = HasSize-empty (core_of sets) (subst (HasSize (core_of sets)) is size)

pub forest_is_empty : (sets : List ℕ) (core : ℕ) → HasSize (core_of sets) core → IsForest sets → core ≡ 0
unfolding IsForest
forest_is_empty sets core size forest = elim (cases_lt 0 core) as (λ _. core ≡ 0) [
  | inl some ↦ let m = HasSize-some (core_of sets) core size some in absurd (forest m.0 m.1)
  | inr none ↦ omega arith
]

-- lists whose patterns have the same variables have the same neighbours
neighbours_same : (sets other : List ℕ) → ((p v : ℕ) → PatternHas sets p v → PatternHas other p v) → (m n : Member) → IsNeighbour sets m n → IsNeighbour other m n
neighbours_same sets other to (Pattern p) (Variable v) near = to p v near
neighbours_same sets other to (Variable v) (Pattern p) near = to p v near
neighbours_same sets other to (Pattern p) (Pattern q) near = near
neighbours_same sets other to (Variable v) (Variable w) near = near

-- and where one of them is a forest, so is the other
forest_same : (sets other : List ℕ) → ((p v : ℕ) → PatternHas other p v → PatternHas sets p v) → IsForest sets → IsForest other
unfolding IsForest core_of
forest_same sets other back forest = λ m core. forest m (core.0, λ n h. larger core.0 n (core.1 n h), core.2) where
  larger : (test : Member → Bool) (n : Member) → HasTwo (neighbours_in other (passing test) n) → HasTwo (neighbours_in sets (passing test) n)
  larger test n two = record {
    first = two.first;
    second = two.second;
    first_in = (neighbours_same other sets back n two.first two.first_in.0, two.first_in.1);
    second_in = (neighbours_same other sets back n two.second two.second_in.0, two.second_in.1);
    apart = two.apart;
  }

module _ (tree : List TreeNode) (k : ℕ) (sets : List ℕ) (are : AreSetsOf tree k sets) where
  -- a node is a forest just where its sets are
  pub forest_node : IsForest sets → IsForestNode tree k
  forest_node forest = (sets, are, forest)

  pub node_forest : IsForestNode tree k → IsForest sets
  node_forest node = forest_same node.0 sets (λ p v has. (node.1 p v).1 ((are p v).0 has)) node.2

  -- ---- members and steps

  -- the members of the sets are within the limits
  member_in : HasLowEdges tree k → (m : Member) → IsMember sets m → IsInRange (length sets) m
  member_in low (Pattern p) member = member
  member_in low (Variable v) member = (low member.0 v ((are member.0 v).0 member.1)).1

  pub steps_few : HasLowEdges tree k → length sets ≤ 256 → (steps : List Member) → IsRemoval sets steps → length steps ≤ 320
  steps_few low few steps removal = omega (arith, few_steps sets steps (length sets) (member_in low) removal)

  -- what is removed is a member
  step_is_member : (steps : List Member) → IsRemoval sets steps → (m : Member) → Contains steps m → IsMember sets m
  step_is_member steps removal m at = subst (IsMember sets) at.2 ((removal.leaves at.0 at.1 m).0.0)

  pub steps_in_range : HasLowEdges tree k → (steps : List Member) → IsRemoval sets steps → (m : Member) → Contains steps m → IsInRange (length sets) m
  steps_in_range low steps removal m at = member_in low m (step_is_member steps removal m at)

  -- ---- pairs of a removal

  pub by_removal : (steps : List Member) (pairs : List (Member × Member)) → IsRemoval sets steps → RemovesAll sets steps → pairs ≡ pairs_by sets steps → IsByRemoval tree k pairs
  by_removal steps pairs removal all is = (sets, steps, record { same = are; removal = removal; all = all }, is)

  near_edge : (m n : Member) → are_near sets m n ≡ true → IsNodePair tree k m n
  near_edge (Pattern p) (Variable v) is = (are p v).0 (eqb-true (bit_at (slice_index sets p) v) 1 is)
  near_edge (Variable v) (Pattern p) is = (are p v).0 (eqb-true (bit_at (slice_index sets p) v) 1 is)
  near_edge (Pattern p) (Pattern q) is = cc
  near_edge (Variable v) (Variable w) is = cc

-- each pair of an order of removal is near
pub pairs_near : {M : Type 0} (near : M → M → Bool) (steps : List M) (m n : M) → Contains (pairs_of near steps) (m, n) → near m n ≡ true
pairs_near near [] m n at = absurd (Contains-nil (m, n) at)
pairs_near {M} near (k ∷ rest) m n at = elim (partner (near k) rest) as (λ o. partner (near k) rest ≡ o → Contains (with_partner k o (pairs_of near rest)) (m, n) → near m n ≡ true) [
  | None ↦ λ is at. pairs_near near rest m n at
  | Some l ↦ λ is at. elim (Contains-cons_cases (k, l) (pairs_of near rest) (m, n) at) as (λ _. near m n ≡ true) [
    | inl same ↦
        let first : k ≡ m = ap (λ (pair : M × M). pair.0) same in
        let second : l ≡ n = ap (λ (pair : M × M). pair.1) same in
        subst (λ m. near m n ≡ true) first (subst (λ n. near k n ≡ true) second (partner-source (near k) rest l is).1)
    | inr later ↦ pairs_near near rest m n later
  ]
] refl at

pub removal_each : (tree : List TreeNode) (k : ℕ) (sets : List ℕ) (are : AreSetsOf tree k sets) (steps : List Member) (m n : Member) → Contains (pairs_by sets steps) (m, n) → IsNodePair tree k m n
removal_each tree k sets are steps m n at = near_edge tree k sets are m n (pairs_near (are_near sets) steps m n at)

-- ---- all edges

module _ (tree : List TreeNode) (k : ℕ) (patterns : List TriplePat) (are : (node : TreeNode) → slice_get tree k ≡ Some node → patterns ≡ node.patterns) (low : k < length tree) where
  each_edge : (m n : Member) → Contains (edges_of patterns) (m, n) → IsEdgePair tree k m n
  each_edge m n at =
      let one = source-flat_map pattern_edges patterns (m, n) at in
      let v = map-Contains (λ (v : ℕ). (Pattern (entry_of one.0), Variable v)) (triple_vars one.0) (m, n) one.2 in
      let first : Pattern (entry_of one.0) ≡ m = ap (λ (pair : Member × Member). pair.0) v.2 in
      let second : Variable v.0 ≡ n = ap (λ (pair : Member × Member). pair.1) v.2 in
      subst (λ m. IsEdgePair tree k m n) first (subst (λ n. IsEdgePair tree k (Pattern (entry_of one.0)) n) second
      (to_edge tree k patterns (entry_of one.0) v.0 are low (record { pattern = one.0; among = one.1; entry = refl; has = v.1 })))

  every_edge : (p v : ℕ) → IsEdge tree k p v → Contains (edges_of patterns) (Pattern p, Variable v)
  every_edge p v edge =
      let has = from_edge tree k patterns p v are edge in
      let own = Contains-map (λ (v : ℕ). (Pattern (entry_of has.pattern), Variable v)) (triple_vars has.pattern) v has.has in
      subst (λ p. Contains (edges_of patterns) (Pattern p, Variable v)) has.entry (Contains-flat_map pattern_edges patterns has.pattern (Pattern (entry_of has.pattern), Variable v) has.among own)

  pub all_are_edges : AreEdges tree k (edges_of patterns)
  all_are_edges = record { each = each_edge; all = every_edge }

-- ---- what each pair is

-- an edge is a pair of the node
pub edge_pair : (tree : List TreeNode) (k : ℕ) (m n : Member) → IsEdgePair tree k m n → IsNodePair tree k m n
edge_pair tree k (Pattern p) (Variable v) edge = edge
edge_pair tree k (Pattern p) (Pattern q) edge = absurd edge
edge_pair tree k (Variable v) n edge = absurd edge

-- whose members are within the limits
pub pair_limits : (tree : List TreeNode) (k : ℕ) → HasLowEdges tree k → (m n : Member) → IsNodePair tree k m n → IsWithinLimits m × IsWithinLimits n
pair_limits tree k low (Pattern p) (Variable v) edge = low p v edge
pair_limits tree k low (Variable v) (Pattern p) edge = let both = low p v edge in (both.1, both.0)
pair_limits tree k low (Pattern p) (Pattern q) edge = absurd edge
pair_limits tree k low (Variable v) (Variable w) edge = absurd edge
