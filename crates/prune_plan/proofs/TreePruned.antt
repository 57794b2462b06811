-- What pruning leaves, for the tree of a pattern.
use Rattle.std.proofs.Common.{◌≡◌, Bool, ℕ, ◌<◌, ◌==◌, List, length, map, refl, sym, ap, subst}
use Rattle.alg_model.specs.declared.pattern.TriplePat.{TriplePat}
use Rattle.alg_model.specs.Eval.{Interpretation}
use Rattle.alg_model.specs.Limits.{max_variables}
use Rattle.node_plans.specs.NodePlan.{IsForestNode}
use Rattle.pattern_tree.specs.Consistent.{IsGreatestConsistent}
use Rattle.pattern_tree.specs.PatternTree.{IsPatternTree}
use Rattle.pattern_tree.specs.Standing.{StandsAt, IsConnected}
use Rattle.pattern_tree.specs.Tree.{TreeNode}
use Rattle.pattern_tree.proofs.Connected.{tree-connected}
use Rattle.pruning_laws.specs.Scene.{Scene}
use Rattle.pruning_laws.specs.SceneOf.{scene_of}
use Rattle.pruning_laws.specs.Shown.{entry_of, shown, AreLeftOf}
use Rattle.pruning_laws.proofs.ArcConsistent.{listed, IsGreatest}
use Rattle.pruning_laws.proofs.Bridge.{greatest_shown}
use Rattle.pruning_laws.proofs.RoundLaws.{greatest_same}
use Rattle.pruning_laws.proofs.SceneShows.{scene_shows}
use Rattle.pruning_laws.proofs.Shows.{Shows}
use Rattle.tree_relations.specs.declared.prepared.Prepared.{Prepared}
use Rattle.tree_relations.specs.Fits.{FitsTree}
use Rattle.tree_relations.specs.Readings.{NumberTriple, as_numbers, lists_left, IsReading}
use Rattle.mask_steps.specs.Held.{HasLayoutOf}
use Rattle.prune_plan.specs.Accepted.{HasNoCrossPlace}
use Rattle.prune_plan.specs.steps.Members.{AreInOrder}
use Rattle.prune_plan.specs.steps.Nodes.{IsSceneOf, IsRound}
use Rattle.prune_plan.proofs.CutLists.{cut, cut-low}
use Rattle.prune_plan.proofs.Greatest.{unchanged_greatest, forest_greatest}
use Rattle.prune_plan.proofs.PairScenes.{scene_of_shows}
use Rattle.prune_plan.proofs.Pruned.{IsReached, reached_more}

module _ (tree : List TreeNode) (stands_for : ℕ → List ℕ → Bool) (triple : ℕ → ℕ × ℕ → NumberTriple) (old new : Prepared) where
  -- the lists of the new scene are the greatest arc-consistent part of those of the old
  abbrev IsGreatestIn : Scene ℕ (ℕ × ℕ) → Type 0
  IsGreatestIn scene = IsGreatest scene (listed (cut (length scene.patterns) (lists_left old))) (listed (cut (length scene.patterns) (lists_left new)))

  abbrev HasGreatest : Type 0
  HasGreatest = IsGreatestConsistent (as_numbers stands_for) tree (shown triple (lists_left old)) (shown triple (lists_left new))

  from_scene : (scene : Scene ℕ (ℕ × ℕ)) → Shows (as_numbers stands_for) tree scene triple → IsGreatestIn scene → HasGreatest
  from_scene scene shows greatest =
      let places = length scene.patterns in
      greatest_same (as_numbers stands_for) tree (shown triple (cut places (lists_left old))) (shown triple (cut places (lists_left new))) (shown triple (lists_left old)) (shown triple (lists_left new)) (listed_there (lists_left old)) (listed_there (lists_left new))
      (greatest_shown (as_numbers stands_for) tree scene triple shows (cut places (lists_left old)) (cut places (lists_left new)) greatest) where
        listed_there : (lists : ℕ → List (ℕ × ℕ)) (k : ℕ) (part : TriplePat) → StandsAt tree k part → shown triple (cut (length scene.patterns) lists) part ≡ shown triple lists part
        listed_there lists k part stands = ap (map (triple (entry_of part))) (cut-low (length scene.patterns) lists (entry_of part) (shows.found k part stands).0)

  -- a pair is read as the triple that it stands for
  abbrev readings : ℕ → Interpretation ℕ (ℕ × ℕ)
  readings i = record {
    subject = λ pair. (triple i pair).subject;
    predicate = λ pair. (triple i pair).predicate;
    object = λ pair. (triple i pair).object;
    same = ◌==◌;
    stands_for = stands_for;
  }

  -- the scene of the pattern shows its tree
  by_tree : (is : IsPatternTree tree) → FitsTree tree old → IsReading old triple →
      ((scene : Scene ℕ (ℕ × ℕ)) → IsConnected tree → Shows (as_numbers stands_for) tree scene triple → IsSceneOf tree old scene → IsGreatestIn scene) → HasGreatest
  by_tree is fits reading greatest =
      let scene = scene_of readings is.pattern in
      let shows : Shows (as_numbers stands_for) tree scene triple = subst (λ tree. Shows (as_numbers stands_for) tree scene triple) (sym is.is)
      (scene_shows (as_numbers stands_for) readings triple (record { subject = λ i y. refl; predicate = λ i y. refl; object = λ i y. refl }) max_variables is.pattern is.keeps_limits) in
      let connected : IsConnected tree = subst IsConnected (sym is.is) (tree-connected is.pattern is.well_designed) in
      from_scene scene shows (greatest scene connected shows (scene_of_shows tree old fits triple reading stands_for scene shows))

-- once a round drops nothing
pub pruned_left : (tree : List TreeNode) (old last new : Prepared) → FitsTree tree old → HasNoCrossPlace tree → IsReached tree old last → IsRound tree last new → AreInOrder last new → HasLayoutOf last new →
    ((i : ℕ) → lists_left new i ≡ lists_left last i) → IsPatternTree tree → (stands_for : ℕ → List ℕ → Bool) (triple : ℕ → ℕ × ℕ → NumberTriple) → IsReading old triple →
    AreLeftOf (as_numbers stands_for) tree triple (lists_left old) (lists_left new)
pruned_left tree old last new fits accepted before round in_order layout same is stands_for triple reading =
    let after = reached_more tree old last new before round in_order layout in
    record {
      greatest = by_tree tree stands_for triple old new is fits reading (λ scene connected shows is_scene. unchanged_greatest tree connected stands_for triple scene shows old fits accepted is_scene last new before round after same);
      in_order = after.in_order;
    }

-- after one round over forests
pub pruned_forest : (tree : List TreeNode) (old new : Prepared) → FitsTree tree old → HasNoCrossPlace tree → IsRound tree old new → AreInOrder old new → ((k : ℕ) → k < length tree → IsForestNode tree k) →
    IsPatternTree tree → (stands_for : ℕ → List ℕ → Bool) (triple : ℕ → ℕ × ℕ → NumberTriple) → IsReading old triple → AreLeftOf (as_numbers stands_for) tree triple (lists_left old) (lists_left new)
pruned_forest tree old new fits accepted round in_order forests is stands_for triple reading = record {
  greatest = by_tree tree stands_for triple old new is fits reading (λ scene connected shows is_scene. forest_greatest tree connected stands_for triple scene shows old fits accepted is_scene new round forests);
  in_order = in_order;
}
