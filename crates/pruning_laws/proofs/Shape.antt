-- A scene that shows a connected tree is a tree, and matches give each variable one value; so what a round leaves as it
-- is, reached by steps that keep every arc-consistent family, is the greatest consistent family.
use Rattle.std.proofs.Common.{◌↔◌, ℕ, ◌<◌, List, length, map, Contains, refl, sym, subst, arith}
use Rattle.alg_model.specs.Eval.{Interpretation}
use Rattle.alg_model.specs.Pattern.{triple_vars}
use Rattle.alg_model.proofs.Lists.{Contains-flat_map, source-flat_map}
use Rattle.join_graph.specs.Members.{Member}
use Rattle.pattern_tree.specs.Consistent.{IsGreatestConsistent}
use Rattle.pattern_tree.specs.Standing.{StandsAt, OccursAt, IsConnected}
use Rattle.pattern_tree.specs.Tree.{TreeNode}
use Rattle.pattern_tree.proofs.Connected.{node_low}
use Rattle.pattern_tree.proofs.Pruning.{Contains-map}
use Rattle.pruning_laws.specs.Matches.{AreMatches}
use Rattle.pruning_laws.specs.Scene.{Scene, node_of, parent_in}
use Rattle.pruning_laws.specs.Shown.{entry_of, shown}
use Rattle.pruning_laws.specs.TreePasses.{tree_passes}
use Rattle.pruning_laws.proofs.ArcConsistent.{listed, LiesWithin, IsArcConsistent, GivesOne, Fits, HasHere, IsTree, above_low}
use Rattle.pruning_laws.proofs.Bridge.{down, greatest_shown}
use Rattle.pruning_laws.proofs.Settling.{IsEnough}
use Rattle.pruning_laws.proofs.Shows.{Shows}
use Rattle.pruning_laws.proofs.TreeRounds.{IsPlan, two_passes_are_enough, unchanged_is_consistent}

module _ {V X Y : Type 0} (interpretation : Interpretation V X) (tree : List TreeNode) (scene : Scene V Y) (triple : ℕ → Y → X) (shows : Shows interpretation tree scene triple) where
  occurs_to : (k v : ℕ) → HasHere scene k v → OccursAt tree k v
  occurs_to k v here =
      let r = here.0 in
      let s = shows.stands r k here.1 in
      record {
        node = s.node;
        stands = s.stands;
        among = Contains-flat_map triple_vars s.node.patterns (shows.pattern_at r) v s.among ((shows.has r v here.1.0).0 here.2);
      }

  occurs_from : (k v : ℕ) → OccursAt tree k v → HasHere scene k v
  occurs_from k v occurs =
      let from = source-flat_map triple_vars occurs.node.patterns v occurs.among in
      let s : StandsAt tree k from.0 = record { node = occurs.node; stands = occurs.stands; among = from.1 } in
      let found = shows.found k from.0 s in
      (entry_of from.0, found, (shows.has (entry_of from.0) v found.0).1 (subst (λ r. Contains (triple_vars r) v) (sym (shows.at_entry k from.0 s)) from.2))

  pub tree_shown : IsConnected tree → IsTree scene
  tree_shown connected = record {
    parents_first = shows.first;
    placed = λ p low. (let s = shows.stands p (node_of scene p) (low, refl) in subst (λ n. node_of scene p < n) (sym shows.nodes) (node_low tree (node_of scene p) s.node s.stands));
    come_down = λ p q v low_p low_q positive way has_p has_q.
        let k = node_of scene q in
        let s = shows.stands q k (low_q, refl) in
        occurs_from (parent_in scene k) v
        (connected.up k (parent_in scene k) (node_of scene p) v s.node s.stands (shows.hangs k s.node positive s.stands)
        (occurs_to k v (q, (low_q, refl), has_q)) (occurs_to (node_of scene p) v (p, (low_p, refl), has_p))
        (λ within.
        let a = above_low scene shows.first k (node_of scene p) (down interpretation tree scene triple shows k (node_of scene p) within) in
        let b = above_low scene shows.first (node_of scene p) (parent_in scene k) way in
        let c = shows.first k positive in
        omega (arith, a, b, c)));
  }

  pub gives_one : (lists : ℕ → List Y) → Fits scene (listed lists) → AreMatches interpretation tree (shown triple lists) → GivesOne scene (listed lists)
  gives_one lists fits matches p t v x y at gives gives' =
      let low = fits p t at in
      let s = shows.stands p (node_of scene p) (low, refl) in
      let there : Contains (shown triple lists (shows.pattern_at p)) (triple p t) =
      subst (λ e. Contains (map (triple e) (lists e)) (triple p t)) (sym (shows.entry_at p (node_of scene p) (low, refl))) (Contains-map (triple p) (lists p) t at) in
      (matches (node_of scene p) (shows.pattern_at p) (triple p t) s there).one v x y ((shows.gives p t v x low).0 gives) ((shows.gives p t v y low).0 gives')

  -- a family that a whole round leaves as it is, reached by steps that keep every arc-consistent list, is the greatest
  -- consistent one
  pub unchanged_shown : IsConnected tree → (pairs : ℕ → List (Member × Member)) → IsPlan scene pairs → (whole left : ℕ → List Y) → Fits scene (listed whole) → AreMatches interpretation tree (shown triple whole) →
      LiesWithin (listed left) (listed whole) →
      ((each : ℕ → List Y) → IsArcConsistent scene (listed each) → LiesWithin (listed each) (listed whole) → LiesWithin (listed each) (listed left)) →
      LiesWithin (listed left) (tree_passes scene pairs (length scene.parents) (listed left)) →
      IsGreatestConsistent interpretation tree (shown triple whole) (shown triple left)
  unchanged_shown connected pairs plan whole left fits matches within keeps unchanged =
      let one = gives_one whole fits matches in
      greatest_shown interpretation tree scene triple shows whole left (record {
        consistent = unchanged_is_consistent scene pairs (tree_shown connected) (listed left) (λ p t v x y at. one p t v x y (within p t at)) (λ p t at. fits p t (within p t at)) plan unchanged;
        within = within;
        largest = keeps;
      })

  -- on forests one round leaves it
  pub two_passes_shown : IsConnected tree → (pairs : ℕ → List (Member × Member)) → ((k : ℕ) → k < length scene.parents → IsEnough scene k (pairs k)) → (whole left : ℕ → List Y) → Fits scene (listed whole) →
      AreMatches interpretation tree (shown triple whole) →
      ((p : ℕ) (t : Y) → Contains (left p) t ↔ tree_passes scene pairs (length scene.parents) (listed whole) p t) →
      IsGreatestConsistent interpretation tree (shown triple whole) (shown triple left)
  two_passes_shown connected pairs enough whole left fits matches is =
      let passes = two_passes_are_enough scene pairs (tree_shown connected) (listed whole) (gives_one whole fits matches) fits enough in
      greatest_shown interpretation tree scene triple shows whole left (record {
        consistent = record {
          values = λ p q v x governs has o. (let found = passes.consistent.values p q v x governs has (o.0, (is q o.0).0 o.1, o.2) in (found.0, (is p found.0).1 found.1, found.2));
          filled = λ p q governs f. (let found = passes.consistent.filled p q governs (f.0, (is q f.0).0 f.1) in (found.0, (is p found.0).1 found.1));
        };
        within = λ p t at. passes.within p t ((is p t).0 at);
        largest = λ each consistent within p t at. (is p t).1 (passes.largest each consistent within p t at);
      })
