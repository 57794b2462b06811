-- Emptying a node that is not alive: what is left then is what the passes over the node leave. And rounds, node by node.
use Rattle.std.proofs.Common.{◌≡◌, ◌↔◌, inl, inr, ℕ, suc, ◌+◌, ◌<◌, List, [], length, Contains, refl, sym, subst, arith}
use Rattle.std.proofs.lemmas.Bool.{cases_eq}
use Rattle.bm_term.proofs.Elements.{Contains-nil}
use Rattle.join_graph.specs.declared.steps.Step.TheVariants.{Pattern, Variable}
use Rattle.join_graph.specs.Members.{Member}
use Rattle.node_plans.specs.NodePlan.{IsNodePair}
use Rattle.node_plans.proofs.WholeTrees.{with_node, with_node-here, with_node-below, passes_more}
use Rattle.pattern_tree.specs.Tree.{TreeNode}
use Rattle.pruning_laws.specs.Plans.{IsEdge}
use Rattle.pruning_laws.specs.Scene.{Scene, IsAtOrAbove, node_of}
use Rattle.pruning_laws.specs.Shown.{entry_of}
use Rattle.pruning_laws.specs.TreePasses.{Holding, emptied, node_passes, tree_passes}
use Rattle.pruning_laws.proofs.ArcConsistent.{governs_from}
use Rattle.pruning_laws.proofs.PassLaws.{OfEach}
use Rattle.tree_relations.specs.declared.prepared.Prepared.{Prepared}
use Rattle.tree_relations.specs.Readings.{lists_left}
use Rattle.prune_plan.specs.steps.Members.{is_left_of}
use Rattle.prune_plan.specs.steps.Nodes.{HasPlace, IsSceneOf, IsLeft, IsAlive, ArePairsOf}
use Rattle.prune_plan.proofs.NodeLaws.{each_listed}
use Rattle.prune_plan.proofs.SceneLaws.{IsLow, node_same}

module _ (tree : List TreeNode) (old : Prepared) (scene : Scene ℕ (ℕ × ℕ)) (is : IsSceneOf tree old scene) (k : ℕ) (low : k < length tree) (ends : Holding (ℕ × ℕ)) (mid : Prepared) (left : IsLeft scene ends mid) where
  -- a node that is alive stays as it is
  pub alive_stays : IsAlive tree mid k → IsLeft scene (emptied scene k ends) mid
  alive_stays alive i pair here = (
    λ at. (
      (left i pair here).0 at,
      λ is_here q governs. (
          let m = node_of scene q in
          let way = subst (λ k. IsAtOrAbove scene.parents m k) is_here governs.above in
          let place = (is.stands q m).0 (governs.exists, refl) in
          let found = alive m ((is.above m k low).0 way) place.0 place.1 in
          (found.0, (left q found.0 governs.exists).0 (subst (λ q. Contains (lists_left mid q) found.0) place.2 found.1))
          ),
    ),
    λ h. (left i pair here).1 h.0,
  )

  -- what is not emptied shows that the node is alive
  filled_alive : (i : ℕ) (pair : ℕ × ℕ) → node_of scene i ≡ k → emptied scene k ends i pair → IsAlive tree mid k
  filled_alive i pair is_here h top within pattern stands =
      let q = entry_of pattern in
      let there = (is.stands q top).1 (pattern, stands, refl) in
      let f = h.1 is_here q (governs_from scene q i top k there is_here ((is.above top k low).1 within)) in
      (f.0, (left q f.0 there.0).1 f.1)

  pub dead_emptied : (new : Prepared) → ¬ IsAlive tree mid k → ((i : ℕ) → HasPlace tree k i → lists_left new i ≡ []) → ((i : ℕ) → ¬ HasPlace tree k i → lists_left new i ≡ lists_left mid i) →
      IsLeft scene (emptied scene k ends) new
  dead_emptied new dead none others i pair here = elim (cases_eq (node_of scene i) k) as (λ _. Contains (lists_left new i) pair ↔ emptied scene k ends i pair) [
    | inl is_here ↦ (
      λ at. absurd (Contains-nil pair (subst (λ l. Contains l pair) (none i ((is.stands i k).0 (here, is_here))) at)),
      λ h. absurd (dead (filled_alive i pair is_here h)),
    )
    | inr apart ↦
        let same = others i (λ place. apart ((is.stands i k).1 place).1) in (
          λ at. ((left i pair here).0 (subst (λ l. Contains l pair) same at), λ is_here. absurd (apart is_here)),
          λ h. subst (λ l. Contains l pair) (sym same) ((left i pair here).1 h.0),
        )
  ]

-- ---- one node after another

pub pairs_more : (tree : List TreeNode) (k : ℕ) (pairs : ℕ → List (Member × Member)) (own : List (Member × Member)) → ((j : ℕ) → j < k → ArePairsOf tree j (pairs j)) → ArePairsOf tree k own →
    (j : ℕ) → j < k + 1 → ArePairsOf tree j (with_node pairs k own j)
pairs_more tree k pairs own before one j low = elim (cases_eq j k) as (λ _. ArePairsOf tree j (with_node pairs k own j)) [
  | inl same ↦ subst (λ j. ArePairsOf tree j (with_node pairs k own j)) (sym same) (subst (ArePairsOf tree k) (sym (with_node-here pairs k own)) one)
  | inr apart ↦ subst (ArePairsOf tree j) (sym (with_node-below pairs k own j (omega arith))) (before j (omega arith))
]

module _ (tree : List TreeNode) (old : Prepared) (scene : Scene ℕ (ℕ × ℕ)) (is : IsSceneOf tree old scene) (k : ℕ) (own : List (Member × Member)) (each : (m n : Member) → Contains own (m, n) → IsNodePair tree k m n) where
  edge_low : (i v : ℕ) → IsEdge tree k i v → i < length scene.patterns
  edge_low i v edge = ((is.edges k i v).1 edge).0.0

  pair_low : (m n : Member) → IsNodePair tree k m n → IsLow scene m × IsLow scene n
  pair_low (Pattern i) (Variable v) edge = (edge_low i v edge, tt)
  pair_low (Variable v) (Pattern i) edge = (tt, edge_low i v edge)
  pair_low (Pattern i) (Pattern j) none = absurd none
  pair_low (Variable v) (Variable w) none = absurd none

  pub all_low : OfEach (λ m n. IsLow scene m × IsLow scene n) own
  all_low = each_listed (λ m n. IsLow scene m × IsLow scene n) own (λ m n at. pair_low m n (each m n at))

  pub round_more : (pairs : ℕ → List (Member × Member)) (family : Holding (ℕ × ℕ)) (mid new : Prepared) → IsLeft scene (tree_passes scene pairs k family) mid → IsLeft scene (node_passes scene k own (is_left_of mid)) new →
      IsLeft scene (tree_passes scene (with_node pairs k own) (suc k) family) new
  round_more pairs family mid new before one i pair here =
      let same = node_same scene k own all_low (is_left_of mid) (tree_passes scene pairs k family) before i pair here in
      subst (λ passes. Contains (lists_left new i) pair ↔ passes i pair) (sym (passes_more scene pairs k own family))
      (λ at. same.0 ((one i pair here).0 at), λ h. (one i pair here).1 (same.1 h))
