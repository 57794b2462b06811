-- What passes over the pairs of a node leave of relations is what they leave of the scene.
use Rattle.std.proofs.Common.{◌≡◌, ◌↔◌, ℕ, zero, suc, ◌<◌, List, [], ◌∷◌, length, Contains, refl, sym, ◌∙◌, ap, subst, arith}
use Rattle.bm_term.proofs.Elements.{Contains-head, Contains-tail}
use Rattle.join_graph.specs.declared.steps.Step.TheVariants.{Pattern, Variable}
use Rattle.join_graph.specs.Members.{Member}
use Rattle.node_plans.specs.NodePlan.{IsNodePair}
use Rattle.pattern_tree.specs.Tree.{TreeNode}
use Rattle.pruning_laws.specs.Passes.{two_passes}
use Rattle.pruning_laws.specs.Plans.{IsEdge}
use Rattle.pruning_laws.specs.Scene.{Scene, StandsIn, parent_in}
use Rattle.pruning_laws.specs.TreePasses.{Item, Triple, Value, agrees, holding, first_values, at_end}
use Rattle.pruning_laws.proofs.ArcConsistent.{HasHere}
use Rattle.pruning_laws.proofs.PassLaws.{OfEach}
use Rattle.tree_relations.specs.declared.prepared.Prepared.{Prepared}
use Rattle.mask_steps.specs.Held.{HasLayoutOf}
use Rattle.prune_plan.specs.steps.Members.{is_left_of, agrees_in}
use Rattle.prune_plan.specs.steps.Nodes.{IsParent, IsSceneOf, IsFirstValue}
use Rattle.prune_plan.proofs.Layouts.{gives_stay, pair_of_left, pair_stays, pair_back}
use Rattle.prune_plan.proofs.PassesSame.{two_passes-same}

-- of each pair, by the list
pub each_listed : (P : Member → Member → Type 0) (pairs : List (Member × Member)) → ((m n : Member) → Contains pairs (m, n) → P m n) → OfEach P pairs
each_listed P [] has = tt
each_listed P ((m, n) ∷ pairs) has = (has m n (Contains-head (m, n) pairs), each_listed P pairs (λ a b at. has a b (Contains-tail (m, n) pairs (a, b) at)))

-- the scene stays while pairs are dropped
pub scene_stays : (tree : List TreeNode) (scene : Scene ℕ (ℕ × ℕ)) (old new : Prepared) → HasLayoutOf old new → IsSceneOf tree old scene → IsSceneOf tree new scene
scene_stays tree scene old new layout is = record {
  nodes = is.nodes;
  stands = is.stands;
  edges = is.edges;
  above = is.above;
  parents = is.parents;
  hangs = is.hangs;
  gives = λ i pair v x low at. (
      let before = is.gives i pair v x low (pair_stays old new layout i pair at) in
      let stay = gives_stay old new layout i pair v x in
      (λ h. stay.1 (before.0 h), λ h. before.1 (stay.0 h))
      );
}

-- and it was one before
pub scene_back : (tree : List TreeNode) (scene : Scene ℕ (ℕ × ℕ)) (old new : Prepared) → HasLayoutOf old new → IsSceneOf tree new scene → IsSceneOf tree old scene
scene_back tree scene old new layout is = record {
  nodes = is.nodes;
  stands = is.stands;
  edges = is.edges;
  above = is.above;
  parents = is.parents;
  hangs = is.hangs;
  gives = λ i pair v x low at. (
      let after = is.gives i pair v x low (pair_back old new layout i pair at) in
      let stay = gives_stay old new layout i pair v x in
      (λ h. stay.0 (after.0 h), λ h. after.1 (stay.1 h))
      );
}

module _ (tree : List TreeNode) (p : Prepared) (scene : Scene ℕ (ℕ × ℕ)) (is : IsSceneOf tree p scene) (k : ℕ) (pairs : List (Member × Member)) (each : (m n : Member) → Contains pairs (m, n) → IsNodePair tree k m n) where
  -- ---- the members of the node

  abbrev IsHere : Member → Type 0
  IsHere (Pattern i) = i < length scene.patterns
  IsHere (Variable v) = HasHere scene k v

  edge_low : (i v : ℕ) → IsEdge tree k i v → i < length scene.patterns
  edge_low i v edge = ((is.edges k i v).1 edge).0.0

  edge_here : (i v : ℕ) → IsEdge tree k i v → HasHere scene k v
  edge_here i v edge = let both = (is.edges k i v).1 edge in (i, both.0, both.1)

  pair_here : (m n : Member) → IsNodePair tree k m n → IsHere m × IsHere n
  pair_here (Pattern i) (Variable v) edge = (edge_low i v edge, edge_here i v edge)
  pair_here (Variable v) (Pattern i) edge = (edge_here i v edge, edge_low i v edge)
  pair_here (Pattern i) (Pattern j) none = absurd none
  pair_here (Variable v) (Variable w) none = absurd none

  all_here : OfEach (λ m n. IsHere m × IsHere n) pairs
  all_here = each_listed (λ m n. IsHere m × IsHere n) pairs (λ m n at. pair_here m n (each m n at))

  -- ---- they agree on what is left

  abbrev whole : Member → Item ℕ (ℕ × ℕ) → Type 0
  whole = holding (is_left_of p) (λ v x. Unit {0})

  alike : (m n : Member) (i j : Item ℕ (ℕ × ℕ)) → IsHere m → IsHere n → whole m i → whole n j → agrees_in p m i n j ↔ agrees scene m i n j
  alike (Pattern q) (Variable v) (Triple t) (Value x) here other at all = let g = is.gives q t v x here (pair_of_left p q t at) in (g.1, g.0)
  alike (Variable v) (Pattern q) (Value x) (Triple t) other here all at = let g = is.gives q t v x here (pair_of_left p q t at) in (g.1, g.0)
  alike (Pattern q) (Variable v) (Triple t) (Triple s) here other at all = (λ h. h, λ h. h)
  alike (Pattern q) (Variable v) (Value x) j here other at all = (λ h. h, λ h. h)
  alike (Pattern q) (Pattern r) i j here other at all = (λ h. h, λ h. h)
  alike (Variable v) (Pattern q) (Value x) (Value y) here other at all = (λ h. h, λ h. h)
  alike (Variable v) (Pattern q) (Triple t) j here other at all = (λ h. h, λ h. h)
  alike (Variable v) (Variable w) i j here other at all = (λ h. h, λ h. h)

  -- ---- and begin with the same values

  module _ (low : k < length tree) (values : ℕ → ℕ → Type 0) (starts : (i v x : ℕ) → IsEdge tree k i v → values v x ↔ IsFirstValue tree p k v x) where
    to_first : (j v x : ℕ) → j ≡ k → IsFirstValue tree p k v x → first_values scene (is_left_of p) j v x
    to_first zero v x same h = tt
    to_first (suc j) v x same h = λ q stands has.
        let parent = parent_in scene (suc j) in
        let hangs : IsParent tree k parent = subst (λ k. IsParent tree k parent) same (is.hangs (suc j) (omega arith) (omega (arith, same, low))) in
        let o = h parent q hangs ((is.edges parent q v).0 (stands, has)) in
        (o.0, o.1, (is.gives q o.0 v x stands.0 (pair_of_left p q o.0 o.1)).1 o.2)

    from_first : (j v x : ℕ) → j ≡ k → first_values scene (is_left_of p) j v x → IsFirstValue tree p k v x
    from_first zero v x same h = λ parent q hangs edge. let up = is.parents k parent hangs in absurd (omega (arith, same, up.0))
    from_first (suc j) v x same h = λ parent q hangs edge.
        let up = is.parents k parent hangs in
        let e : parent_in scene (suc j) ≡ parent = ap (parent_in scene) same ∙ up.1 in
        let both = (is.edges parent q v).1 edge in
        let o = h q (subst (StandsIn scene q) (sym e) both.0) both.1 in
        (o.0, o.1, (is.gives q o.0 v x both.0.0 (pair_of_left p q o.0 o.1)).0 o.2)

    begin : (m : Member) (i : Item ℕ (ℕ × ℕ)) → IsHere m → holding (is_left_of p) values m i ↔ holding (is_left_of p) (first_values scene (is_left_of p) k) m i
    begin (Pattern q) (Triple t) here = (λ h. h, λ h. h)
    begin (Pattern q) (Value x) here = (λ h. h, λ h. h)
    begin (Variable v) (Triple t) here = (λ h. h, λ h. h)
    begin (Variable v) (Value x) here =
        let edge = (is.edges k here.0 v).0 (here.1, here.2) in
        let first = starts here.0 v x edge in
        (λ h. to_first k v x refl (first.0 h), λ h. first.1 (from_first k v x refl h))

    part : (m : Member) (i : Item ℕ (ℕ × ℕ)) → IsHere m → holding (is_left_of p) values m i → whole m i
    part (Pattern q) (Triple t) here h = h
    part (Pattern q) (Value x) here h = h
    part (Variable v) (Triple t) here h = h
    part (Variable v) (Value x) here h = tt

    -- so passes leave the same
    pub passes_at_end : (i : ℕ) (pair : ℕ × ℕ) → i < length scene.patterns →
        two_passes (agrees_in p) pairs (holding (is_left_of p) values) (Pattern i) (Triple pair) ↔ at_end scene k pairs (is_left_of p) (Pattern i) (Triple pair)
    passes_at_end i pair here =
        two_passes-same (agrees_in p) (agrees scene) IsHere whole alike pairs all_here (holding (is_left_of p) values) (holding (is_left_of p) (first_values scene (is_left_of p) k)) part begin (Pattern i) (Triple pair) here
