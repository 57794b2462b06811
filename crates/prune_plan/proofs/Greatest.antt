-- What is left once a round drops nothing is the greatest arc-consistent part of the lists of a scene; where each node is a
-- forest, one round leaves it.
use Rattle.std.proofs.Common.{◌≡◌, ◌↔◌, Bool, ℕ, zero, suc, ◌<◌, List, length, Contains, refl, sym, subst, arith}
use Rattle.join_graph.specs.Members.{Member}
use Rattle.node_plans.specs.NodePlan.{IsForestNode}
use Rattle.pattern_tree.specs.Standing.{IsConnected}
use Rattle.pattern_tree.specs.Tree.{TreeNode}
use Rattle.pruning_laws.specs.Plans.{IsPlanOf}
use Rattle.pruning_laws.specs.Scene.{Scene, StandsIn, node_of}
use Rattle.pruning_laws.specs.TreePasses.{Holding, tree_passes}
use Rattle.pruning_laws.proofs.ArcConsistent.{listed, LiesWithin, IsGreatest, GivesOne, Fits}
use Rattle.pruning_laws.proofs.NodePlans.{plan_shown, stripped_is_enough}
use Rattle.pruning_laws.proofs.Shape.{tree_shown}
use Rattle.pruning_laws.proofs.Shows.{Shows}
use Rattle.pruning_laws.proofs.Settling.{IsEnough}
use Rattle.pruning_laws.proofs.TreeRounds.{IsPlan, round_within, two_passes_are_enough, unchanged_is_consistent}
use Rattle.tree_relations.specs.declared.prepared.Prepared.{Prepared}
use Rattle.tree_relations.specs.Fits.{FitsTree}
use Rattle.tree_relations.specs.Readings.{NumberTriple, as_numbers, lists_left}
use Rattle.mask_steps.specs.Held.{GivesAt}
use Rattle.prune_plan.specs.Accepted.{HasNoCrossPlace}
use Rattle.prune_plan.specs.steps.Members.{is_left_of}
use Rattle.prune_plan.specs.steps.Nodes.{IsPairOf, IsSceneOf, ArePairsOf, IsRound}
use Rattle.prune_plan.proofs.CutLists.{cut, cut-low_only, cut-within, within-cut}
use Rattle.prune_plan.proofs.Emptying.{all_low}
use Rattle.prune_plan.proofs.Layouts.{left_before, pair_of_left}
use Rattle.prune_plan.proofs.NodeLaws.{scene_stays}
use Rattle.prune_plan.proofs.PairScenes.{gives_one}
use Rattle.prune_plan.proofs.Pruned.{IsReached, plan_of}
use Rattle.prune_plan.proofs.SceneLaws.{AreSameIn, node_same}

-- ---- passes over the first nodes

tree_same : (tree : List TreeNode) (p : Prepared) (scene : Scene ℕ (ℕ × ℕ)) → IsSceneOf tree p scene → (pairs : ℕ → List (Member × Member)) → (n : ℕ) → ((k : ℕ) → k < n → ArePairsOf tree k (pairs k)) →
    (family other : Holding (ℕ × ℕ)) → AreSameIn scene family other → AreSameIn scene (tree_passes scene pairs n family) (tree_passes scene pairs n other)
tree_same tree p scene is pairs zero each family other same = same
tree_same tree p scene is pairs (suc n) each family other same =
    let own = each n (omega arith) in
    node_same scene n (pairs n) (all_low tree p scene is n (pairs n) own.each) (tree_passes scene pairs n family) (tree_passes scene pairs n other)
    (tree_same tree p scene is pairs n (λ k low. each k (omega (arith, low))) family other same)

-- ---- the lists of the scene

module _ (tree : List TreeNode) (connected : IsConnected tree) (stands_for : ℕ → List ℕ → Bool) (triple : ℕ → ℕ × ℕ → NumberTriple) (scene : Scene ℕ (ℕ × ℕ)) (shows : Shows (as_numbers stands_for) tree scene triple)
    (old : Prepared) (fits : FitsTree tree old) (accepted : HasNoCrossPlace tree) (is : IsSceneOf tree old scene) where
  abbrev places : ℕ
  places = length scene.patterns

  abbrev whole : ℕ → List (ℕ × ℕ)
  whole = cut places (lists_left old)

  one : GivesOne scene (listed whole)
  one i pair v x y at first second =
      let there = cut-within places (lists_left old) i pair at in
      let k = node_of scene i in
      let s : StandsIn scene i k = (there.0, refl) in
      let here = shows.entry_at i k s in
      let gives = λ (x : ℕ). (is.gives i pair v x there.0 (pair_of_left old i pair there.1)).0 in
      gives_one tree old fits accepted k (shows.pattern_at i) (shows.stands i k s) pair (subst (λ i. IsPairOf old i pair) (sym here) (pair_of_left old i pair there.1)) v x y
      (subst (λ i. GivesAt old i pair v x) (sym here) (gives x first)) (subst (λ i. GivesAt old i pair v y) (sym here) (gives y second))

  -- ---- the last round

  module _ (last new : Prepared) (before : IsReached tree old last) (round : IsRound tree last new) (after : IsReached tree old new) (same : (i : ℕ) → lists_left new i ≡ lists_left last i) where
    abbrev left : ℕ → List (ℕ × ℕ)
    left = cut places (lists_left new)

    plans : (pairs : ℕ → List (Member × Member)) → IsPlanOf tree pairs → IsPlan scene pairs
    plans = plan_shown (as_numbers stands_for) tree scene triple shows

    within : LiesWithin (listed left) (listed whole)
    within i pair at =
        let there = cut-within places (lists_left new) i pair at in
        within-cut places (lists_left old) i pair there.0 (left_before old new after.in_order i pair there.1)

    -- the round left all that there was
    unchanged : LiesWithin (listed left) (tree_passes scene round.0 (length scene.parents) (listed left))
    unchanged i pair at =
        let there = cut-within places (lists_left new) i pair at in
        let here = scene_stays tree scene old last before.layout is in
        let passed = (round.2 scene here i pair there.0).0 there.1 in
        let swap : AreSameIn scene (is_left_of last) (listed left) = λ j t low. (
          λ at. within-cut places (lists_left new) j t low (subst (λ l. Contains l t) (sym (same j)) at),
          λ at. subst (λ l. Contains l t) (same j) (cut-within places (lists_left new) j t at).1,
        ) in
        subst (λ n. tree_passes scene round.0 n (listed left) i pair) (sym is.nodes) ((tree_same tree last scene here round.0 (length tree) round.1 (is_left_of last) (listed left) swap i pair there.0).0 passed)

    pub unchanged_greatest : IsGreatest scene (listed whole) (listed left)
    unchanged_greatest = record {
      consistent = unchanged_is_consistent scene round.0 (tree_shown (as_numbers stands_for) tree scene triple shows connected) (listed left) (λ i t v x y at. one i t v x y (within i t at))
          (λ i t at. cut-low_only places (lists_left new) i t at) (plans round.0 (plan_of tree round.0 round.1)) unchanged;
      within = within;
      largest = λ each consistent inside. (
          let low : Fits scene (listed each) = λ i t at. cut-low_only places (lists_left old) i t (inside i t at) in
          let kept = after.keeps scene is plans each consistent low (λ i t at. (cut-within places (lists_left old) i t (inside i t at)).1) in
          λ i t at. within-cut places (lists_left new) i t (low i t at) (kept i t at)
          );
    }

  -- ---- one round over forests

  module _ (new : Prepared) (round : IsRound tree old new) (forests : (k : ℕ) → k < length tree → IsForestNode tree k) where
    enough : (k : ℕ) → k < length scene.parents → IsEnough scene k (round.0 k)
    enough k low =
        let there = subst (λ n. k < n) is.nodes low in
        let by = (round.1 k there).forest (forests k there) in
        subst (IsEnough scene k) (sym by.3) (stripped_is_enough (as_numbers stands_for) tree scene triple shows k by.0 by.1 by.2)

    passed : Holding (ℕ × ℕ)
    passed = tree_passes scene round.0 (length scene.parents) (listed whole)

    left_is : (i : ℕ) (pair : ℕ × ℕ) → Contains (cut places (lists_left new) i) pair ↔ passed i pair
    unfolding passed
    left_is i pair = (
      λ at. (
          let there = cut-within places (lists_left new) i pair at in
          (same i pair there.0).0 ((round.2 scene is i pair there.0).0 there.1)
          ),
      λ h. (
          let low = cut-low_only places (lists_left old) i pair (round_within scene round.0 (listed whole) (length scene.parents) i pair h) in
          within-cut places (lists_left new) i pair low ((round.2 scene is i pair low).1 ((same i pair low).1 h))
          ),
    ) where
      swap : AreSameIn scene (is_left_of old) (listed whole)
      swap j t low = (λ at. within-cut places (lists_left old) j t low at, λ at. (cut-within places (lists_left old) j t at).1)

      same : (i : ℕ) (pair : ℕ × ℕ) → i < places → tree_passes scene round.0 (length tree) (is_left_of old) i pair ↔ tree_passes scene round.0 (length scene.parents) (listed whole) i pair
      same i pair low = subst (λ n. tree_passes scene round.0 (length tree) (is_left_of old) i pair ↔ tree_passes scene round.0 n (listed whole) i pair) (sym is.nodes)
          (tree_same tree old scene is round.0 (length tree) round.1 (is_left_of old) (listed whole) swap i pair low)

    pub forest_greatest : IsGreatest scene (listed whole) (listed (cut places (lists_left new)))
    unfolding passed
    forest_greatest =
        let passes = two_passes_are_enough scene round.0 (tree_shown (as_numbers stands_for) tree scene triple shows connected) (listed whole) one (λ i t at. cut-low_only places (lists_left old) i t at) enough in
        record {
          consistent = record {
            values = λ p q v x governs has o. (let found = passes.consistent.values p q v x governs has (o.0, (left_is q o.0).0 o.1, o.2) in (found.0, (left_is p found.0).1 found.1, found.2));
            filled = λ p q governs f. (let found = passes.consistent.filled p q governs (f.0, (left_is q f.0).0 f.1) in (found.0, (left_is p found.0).1 found.1));
          };
          within = λ i t at. passes.within i t ((left_is i t).0 at);
          largest = λ each consistent inside i t at. (left_is i t).1 (passes.largest each consistent inside i t at);
        }
