-- Rounds, node by node and one after another.
use Rattle.std.proofs.Common.{◌≡◌, ℕ, suc, ◌+◌, ◌<◌, ◌≤◌, List, [], length, refl, subst, arith}
use Rattle.join_graph.specs.Members.{Member}
use Rattle.node_plans.proofs.WholeTrees.{with_node}
use Rattle.pattern_tree.specs.Tree.{TreeNode}
use Rattle.pruning_laws.specs.Plans.{IsPlanOf}
use Rattle.pruning_laws.specs.Scene.{Scene}
use Rattle.pruning_laws.specs.TreePasses.{tree_passes}
use Rattle.pruning_laws.proofs.ArcConsistent.{listed, LiesWithin, IsArcConsistent, Fits}
use Rattle.pruning_laws.proofs.TreeRounds.{IsPlan, round_keeps}
use Rattle.tree_relations.specs.declared.prepared.Prepared.{Prepared}
use Rattle.tree_relations.specs.Fits.{FitsTree}
use Rattle.mask_steps.specs.Held.{HasLayoutOf}
use Rattle.mask_steps.specs.Measure.{Narrows}
use Rattle.prune_plan.specs.steps.Members.{is_left_of, AreInOrder}
use Rattle.prune_plan.specs.steps.Nodes.{IsSceneOf, IsLeft, ArePairsOf, IsNodePruned, IsRound}
use Rattle.prune_plan.proofs.Emptying.{pairs_more, round_more}
use Rattle.prune_plan.proofs.Layouts.{layout_then, in_order_same, in_order_then, narrows_same, narrows_then}
use Rattle.prune_plan.proofs.NodeLaws.{scene_stays}

-- ---- the nodes of a round

-- the first nodes have been pruned
pub record IsRoundBelow (tree : List TreeNode) (old : Prepared) (k : ℕ) (new : Prepared) : Type 0 where
  pub pairs : ℕ → List (Member × Member)
  pub each : (j : ℕ) → j < k → ArePairsOf tree j (pairs j)
  pub left : (scene : Scene ℕ (ℕ × ℕ)) → IsSceneOf tree old scene → IsLeft scene (tree_passes scene pairs k (is_left_of old)) new
  pub in_order : AreInOrder old new
  pub narrows : Narrows old new
  pub layout : HasLayoutOf old new

pub round_none : (tree : List TreeNode) (old : Prepared) → FitsTree tree old → IsRoundBelow tree old 0 old
round_none tree old fits = record {
  pairs = λ j. [];
  each = λ j low. absurd (omega (arith, low));
  left = λ scene is i pair here. (λ at. at, λ at. at);
  in_order = in_order_same old old (λ i. refl);
  narrows = narrows_same old old refl (λ i. refl);
  layout = record { same = refl; fits = fits.together };
}

pub round_node : (tree : List TreeNode) (old mid new : Prepared) (k : ℕ) → k < length tree → IsRoundBelow tree old k mid → IsNodePruned tree k mid new → AreInOrder mid new → Narrows mid new → HasLayoutOf mid new →
    IsRoundBelow tree old (k + 1) new
round_node tree old mid new k low before pruned in_order narrows layout =
    let own = pruned.0 in
    record {
      pairs = with_node before.pairs k own;
      each = pairs_more tree k before.pairs own before.each pruned.1;
      left = λ scene is. (
          let here = scene_stays tree scene old mid before.layout is in
          let more = round_more tree mid scene here k own pruned.1.each before.pairs (is_left_of old) mid new (before.left scene is) (pruned.2 scene here) in
          let e : suc k ≡ k + 1 = omega arith in
          subst (λ n. IsLeft scene (tree_passes scene (with_node before.pairs k own) n (is_left_of old)) new) e more
          );
      in_order = in_order_then old mid new before.in_order in_order;
      narrows = narrows_then old mid new before.narrows narrows;
      layout = layout_then old mid new before.layout layout;
    }

-- ---- rounds

-- what rounds reach keeps each list that is arc consistent
pub record IsReached (tree : List TreeNode) (old new : Prepared) : Type 0 where
  pub keeps : (scene : Scene ℕ (ℕ × ℕ)) → IsSceneOf tree old scene → ((pairs : ℕ → List (Member × Member)) → IsPlanOf tree pairs → IsPlan scene pairs) →
      (each : ℕ → List (ℕ × ℕ)) → IsArcConsistent scene (listed each) → Fits scene (listed each) → LiesWithin (listed each) (is_left_of old) → LiesWithin (listed each) (is_left_of new)
  pub in_order : AreInOrder old new
  pub layout : HasLayoutOf old new

pub reached_first : (tree : List TreeNode) (old : Prepared) → FitsTree tree old → IsReached tree old old
reached_first tree old fits = record {
  keeps = λ scene is plans each consistent fits within. within;
  in_order = in_order_same old old (λ i. refl);
  layout = record { same = refl; fits = fits.together };
}

pub plan_of : (tree : List TreeNode) (pairs : ℕ → List (Member × Member)) → ((k : ℕ) → k < length tree → ArePairsOf tree k (pairs k)) → IsPlanOf tree pairs
plan_of tree pairs each k low = (each k low).plan

pub reached_more : (tree : List TreeNode) (old mid new : Prepared) → IsReached tree old mid → IsRound tree mid new → AreInOrder mid new → HasLayoutOf mid new → IsReached tree old new
reached_more tree old mid new before round in_order layout = record {
  keeps = λ scene is plans each consistent fits within. (
      let here = scene_stays tree scene old mid before.layout is in
      let reached = before.keeps scene is plans each consistent fits within in
      let few : length tree ≤ length scene.parents = omega (arith, is.nodes) in
      λ p t at. (round.2 scene here p t (fits p t at)).1
      (round_keeps scene round.0 (plans round.0 (plan_of tree round.0 round.1)) (listed each) consistent (is_left_of mid) reached (length tree) few p t at)
      );
  in_order = in_order_then old mid new before.in_order in_order;
  layout = layout_then old mid new before.layout layout;
}
