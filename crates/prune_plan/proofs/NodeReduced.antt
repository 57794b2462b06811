-- The passes over a node, from the values with which its variables begin.
use Rattle.std.proofs.Common.{◌≡◌, ◌↔◌, ℕ, ◌<◌, List, length, Option, Contains}
use Rattle.join_graph.specs.declared.steps.Step.TheVariants.{Pattern, Variable}
use Rattle.join_graph.specs.Members.{Member}
use Rattle.node_plans.specs.NodePlan.{IsNodePair, IsWithinLimits}
use Rattle.pattern_tree.specs.Tree.{TreeNode}
use Rattle.pruning_laws.specs.Passes.{two_passes}
use Rattle.pruning_laws.specs.Plans.{IsEdge}
use Rattle.pruning_laws.specs.Scene.{Scene}
use Rattle.pruning_laws.specs.TreePasses.{Item, Triple, Value, holding, at_end}
use Rattle.tree_relations.specs.declared.prepared.PlaceKind.{PlaceKind}
use Rattle.tree_relations.specs.declared.prepared.Prepared.{Prepared}
use Rattle.tree_relations.specs.Fits.{FitsTree}
use Rattle.tree_relations.specs.Readings.{lists_left}
use Rattle.mask_steps.specs.Held.{HasValue, HasLayoutOf}
use Rattle.prune_plan.specs.Accepted.{HasNoCrossPlace}
use Rattle.prune_plan.specs.steps.Members.{is_left_of, held_by, agrees_in, AreSides}
use Rattle.prune_plan.specs.steps.Nodes.{IsSceneOf, IsLeft, IsFirstValue}
use Rattle.prune_plan.proofs.Layouts.{agree_stays, lists_same}
use Rattle.prune_plan.proofs.NodeLaws.{passes_at_end}
use Rattle.prune_plan.proofs.PassesSame.{passes-all}
use Rattle.prune_plan.proofs.Places.{edge_is_var}

-- the pairs of a node are of triple patterns and variables at sides of their relations
pub pair_sides : (tree : List TreeNode) (p : Prepared) → FitsTree tree p → HasNoCrossPlace tree → (k : ℕ) (m n : Member) → IsNodePair tree k m n → IsWithinLimits m × IsWithinLimits n → AreSides p m n
pair_sides tree p fits accepted k (Pattern i) (Variable v) edge low = (edge_is_var tree p fits accepted k i v edge, low.1)
pair_sides tree p fits accepted k (Variable v) (Pattern i) edge low = (edge_is_var tree p fits accepted k i v edge, low.0)
pair_sides tree p fits accepted k (Pattern i) (Pattern j) none low = absurd none
pair_sides tree p fits accepted k (Variable v) (Variable w) none low = absurd none

pub node_reduced : (tree : List TreeNode) (old : Prepared) (scene : Scene ℕ (ℕ × ℕ)) → IsSceneOf tree old scene → (k : ℕ) (pairs : List (Member × Member)) → ((m n : Member) → Contains pairs (m, n) → IsNodePair tree k m n) →
    k < length tree → (mid new : Prepared) (kinds fresh : List (Option PlaceKind)) → HasLayoutOf old mid → ((i : ℕ) → lists_left mid i ≡ lists_left old i) →
    ((i v x : ℕ) → IsEdge tree k i v → HasValue mid kinds v x ↔ IsFirstValue tree old k v x) →
    ((i : ℕ) (pair : ℕ × ℕ) → held_by new fresh (Pattern i) (Triple pair) ↔ two_passes (agrees_in mid) pairs (held_by mid kinds) (Pattern i) (Triple pair)) →
    IsLeft scene (λ i t. at_end scene k pairs (is_left_of old) (Pattern i) (Triple t)) new
node_reduced tree old scene is k pairs each low mid new kinds fresh layout lists values held i pair here =
    let passes = held i pair in
    let back = passes-all (agrees_in mid) (agrees_in old) (agree_stays old mid layout) pairs (held_by mid kinds) (holding (is_left_of old) (HasValue mid kinds)) begin (Pattern i) (Triple pair) in
    let ends = passes_at_end tree old scene is k pairs each low (HasValue mid kinds) values i pair here in
    (λ at. ends.0 (back.0 (passes.0 at)), λ h. passes.1 (back.1 (ends.1 h))) where
      begin : (m : Member) (item : Item ℕ (ℕ × ℕ)) → held_by mid kinds m item ↔ holding (is_left_of old) (HasValue mid kinds) m item
      begin (Pattern i) (Triple t) = lists_same old mid lists i t
      begin (Pattern i) (Value x) = (λ h. h, λ h. h)
      begin (Variable v) (Triple t) = (λ h. h, λ h. h)
      begin (Variable v) (Value x) = (λ h. h, λ h. h)
