-- A node that is a forest is level once it is pruned, and stays so while later nodes are.
use Rattle.std.proofs.Common.{◌≡◌, ◌≢◌, inl, inr, ℕ, ◌+◌, ◌<◌, List, Contains, sym, ◌∙◌, subst, arith}
use Rattle.std.proofs.lemmas.Bool.{cases_eq}
use Rattle.join_graph.specs.declared.steps.Step.TheVariants.{Pattern, Variable}
use Rattle.join_graph.specs.Members.{Member}
use Rattle.node_plans.specs.NodePlan.{IsForestNode, IsNodePair}
use Rattle.pattern_tree.specs.Tree.{TreeNode}
use Rattle.pruning_laws.specs.Passes.{HasPartner}
use Rattle.pruning_laws.specs.Plans.{IsEdge}
use Rattle.pruning_laws.specs.Scene.{Scene, Gives, StandsIn}
use Rattle.pruning_laws.specs.TreePasses.{Item, Triple, Value, agrees, holding, first_values, at_end, node_passes}
use Rattle.pruning_laws.proofs.ArcConsistent.{governs_same}
use Rattle.pruning_laws.proofs.Keeping.{AreNeighbours, node_passes-within, elsewhere}
use Rattle.pruning_laws.proofs.Pairing.{enough_from_removal}
use Rattle.pruning_laws.proofs.PassLaws.{two_passes-within}
use Rattle.pruning_laws.proofs.Settling.{Matters, IsEnough, AreBalanced, enough_balances}
use Rattle.tree_relations.specs.declared.prepared.Prepared.{Prepared}
use Rattle.tree_relations.specs.Fits.{FitsTree}
use Rattle.tree_relations.specs.Readings.{lists_left}
use Rattle.mask_steps.specs.Held.{GivesAt, OccursAt, HasLayoutOf}
use Rattle.prune_plan.specs.Accepted.{HasNoCrossPlace}
use Rattle.prune_plan.specs.steps.Members.{is_left_of}
use Rattle.prune_plan.specs.steps.Nodes.{IsPairOf, IsSceneOf, IsLeft, IsLevel, HasLevel, ArePairsOf, IsNodePruned}
use Rattle.prune_plan.proofs.Layouts.{gives_stay, pair_of_left}
use Rattle.prune_plan.proofs.NodeLaws.{each_listed, scene_back}
use Rattle.prune_plan.proofs.PairScenes.{gives_one}

module _ (tree : List TreeNode) (old : Prepared) (scene : Scene ℕ (ℕ × ℕ)) (is : IsSceneOf tree old scene) (k : ℕ) (pairs : List (Member × Member)) (are : ArePairsOf tree k pairs)
    (new : Prepared) (left : IsLeft scene (node_passes scene k pairs (is_left_of old)) new) (layout : HasLayoutOf old new) where
  near : (m n : Member) → IsNodePair tree k m n → AreNeighbours scene k m n
  near (Pattern i) (Variable v) edge = (is.edges k i v).1 edge
  near (Variable v) (Pattern i) edge = (is.edges k i v).1 edge
  near (Pattern i) (Pattern j) none = absurd none
  near (Variable v) (Variable w) none = absurd none

  -- ---- another node

  pub level_stays : (j : ℕ) → j ≢ k → IsLevel tree old j → IsLevel tree new j
  level_stays j apart level i other v x edge edge' occurs =
      let here = (is.edges j i v).1 edge in
      let there = (is.edges j other v).1 edge' in
      let each = each_listed (AreNeighbours scene k) pairs (λ m n at. near m n (are.each m n at)) in
      let before : OccursAt old i v x =
      (occurs.0, node_passes-within scene k pairs (is_left_of old) i occurs.0 ((left i occurs.0 here.0.0).0 occurs.1), (gives_stay old new layout i occurs.0 v x).0 occurs.2) in
      let found = level i other v x edge edge' before in
      (found.0, (left other found.0 there.0.0).1 (elsewhere scene k other found.0 pairs (is_left_of old) (λ e. apart (sym there.0.1 ∙ e)) each found.1), (gives_stay old new layout other found.0 v x).1 found.2)

  -- ---- a forest

  module _ (fits : FitsTree tree old) (accepted : HasNoCrossPlace tree) (forest : IsForestNode tree k) where
    enough : IsEnough scene k pairs
    enough =
        let by = are.forest forest in
        subst (IsEnough scene k) (sym by.3)
        (enough_from_removal scene k by.0 (record {
          some = λ p v has. (is.edges k p v).1 ((by.2.same p v).0 has);
          all = λ p v stands has matters. (by.2.same p v).1 ((is.edges k p v).0 (stands, has));
        }) by.1 by.2.removal by.2.all)

    abbrev ends : Member → Item ℕ (ℕ × ℕ) → Type 0
    ends = at_end scene k pairs (is_left_of old)

    balanced : AreBalanced scene (is_left_of old) k pairs
    balanced = enough_balances scene k pairs (is_left_of old) enough

    some_value : (i v : ℕ) (t : ℕ × ℕ) → HasPartner (agrees scene) ends (Variable v) (Pattern i) (Triple t) → (y : ℕ) × ends (Variable v) (Value y) × Gives scene i t v y
    some_value i v t has = by has.0 has.1 has.2 where
      by : (item : Item ℕ (ℕ × ℕ)) → ends (Variable v) item → agrees scene (Variable v) item (Pattern i) (Triple t) → (y : ℕ) × ends (Variable v) (Value y) × Gives scene i t v y
      by (Value y) h a = (y, h, a)
      by (Triple s) h a = absurd a

    some_pair : (j v x : ℕ) → HasPartner (agrees scene) ends (Pattern j) (Variable v) (Value x) → (s : ℕ × ℕ) × ends (Pattern j) (Triple s) × Gives scene j s v x
    some_pair j v x has = by has.0 has.1 has.2 where
      by : (item : Item ℕ (ℕ × ℕ)) → ends (Pattern j) item → agrees scene (Pattern j) item (Variable v) (Value x) → (s : ℕ × ℕ) × ends (Pattern j) (Triple s) × Gives scene j s v x
      by (Triple s) h a = (s, h, a)
      by (Value y) h a = absurd a

    -- what is left at the end was left before
    of_old : (i : ℕ) (t : ℕ × ℕ) → ends (Pattern i) (Triple t) → Contains (lists_left old i) t
    of_old i t h = two_passes-within (agrees scene) pairs (holding (is_left_of old) (first_values scene (is_left_of old) k)) (Pattern i) (Triple t) h

    one_value : (i : ℕ) → StandsIn scene i k → (t : ℕ × ℕ) → Contains (lists_left old i) t → (v x y : ℕ) → GivesAt old i t v x → GivesAt old i t v y → x ≡ y
    one_value i stands t at v x y first second =
        let place = (is.stands i k).0 stands in
        gives_one tree old fits accepted k place.0 place.1 t (subst (λ i. IsPairOf old i t) (sym place.2) (pair_of_left old i t at)) v x y (subst (λ i. GivesAt old i t v x) (sym place.2) first) (subst (λ i. GivesAt old i t v y) (sym place.2) second)

    between : (i j v x : ℕ) → i ≢ j → IsEdge tree k i v → IsEdge tree k j v → OccursAt new i v x → OccursAt new j v x
    between i j v x apart edge edge' occurs =
        let t = occurs.0 in
        let here = (is.edges k i v).1 edge in
        let there = (is.edges k j v).1 edge' in
        let matters : Matters scene k v = inl (record { first = i; second = j; first_in = here.0; second_in = there.0; first_has = here.1; second_has = there.1; apart = apart }) in
        let passed = (left i t here.0.0).0 occurs.1 in
        let at = of_old i t passed.0 in
        let held = some_value i v t ((balanced i v here.0 here.1 matters).1 (Triple t) passed.0) in
        let same : held.0 ≡ x = one_value i here.0 t at v held.0 x ((is.gives i t v held.0 here.0.0 (pair_of_left old i t at)).0 held.2) ((gives_stay old new layout i t v x).0 occurs.2) in
        let found = some_pair j v x ((balanced j v there.0 there.1 matters).0 (Value x) (subst (λ y. ends (Variable v) (Value y)) same held.1)) in
        let s = found.0 in (
          s,
          (left j s there.0.0).1 (found.1, λ is_here q governs. passed.1 here.0.1 q (governs_same scene q j i (there.0.1 ∙ sym here.0.1) governs)),
          (gives_stay old new layout j s v x).1 ((is.gives j s v x there.0.0 (pair_of_left old j s (of_old j s found.1))).0 found.2),
        )

    pub level_here : IsLevel tree new k
    level_here i j v x edge edge' occurs = elim (cases_eq i j) as (λ _. OccursAt new j v x) [
      | inl same ↦ subst (λ i. OccursAt new i v x) same occurs
      | inr apart ↦ between i j v x apart edge edge' occurs
    ]

-- ---- one node after another

pub level_more : (tree : List TreeNode) (mid new : Prepared) (k : ℕ) → IsForestNode tree k → FitsTree tree mid → HasNoCrossPlace tree → IsNodePruned tree k mid new → HasLayoutOf mid new → ((j : ℕ) → j < k → HasLevel tree mid j) →
    (j : ℕ) → j < k + 1 → HasLevel tree new j
level_more tree mid new k forest fits accepted pruned layout before j low = λ scene is.
    let was = scene_back tree scene mid new layout is in
    elim (cases_eq j k) as (λ _. IsLevel tree new j) [
      | inl same ↦ subst (IsLevel tree new) (sym same) (level_here tree mid scene was k pruned.0 pruned.1 new (pruned.2 scene was) layout fits accepted forest)
      | inr apart ↦ level_stays tree mid scene was k pruned.0 pruned.1 new (pruned.2 scene was) layout j apart (before j (omega arith) scene was)
    ]
