-- The nodes at which a variable of a well-designed pattern occurs are connected, by the parts of the pattern.
use Rattle.std.proofs.Common.{◌≡◌, ◌⊎◌, ℕ, zero, suc, ◌+◌, ◌<◌, ◌++◌, inl, inr, List, [], ◌∷◌, length, map, Some, None, Contains, refl, sym, ◌∙◌, ap, subst, arith}
use Rattle.std.specs.Prelude.{slice_get}
use Rattle.std.proofs.lemmas.List.Elements.{Contains-append_left, Contains-append_right, Contains-append_cases}
use Rattle.alg_model.specs.declared.pattern.TriplePat.{TriplePat}
use Rattle.alg_model.specs.Pattern.{Algebra, Bgp, Join, LeftJoin, triple_vars, triple_patterns, vars_of}
use Rattle.alg_model.specs.WellDesigned.{IsWellDesigned}
use Rattle.alg_model.proofs.Lists.{Contains-flat_map, source-flat_map}
use Rattle.pattern_tree.specs.Standing.{StandsAt, OccursAt, IsWithin, itself, below, IsConnected}
use Rattle.pattern_tree.specs.Tree.{TreeNode, root_patterns, moved_parent, moved_option, moved, hung_parent, hung, nodes_below, tree_of}
use Rattle.pattern_tree.proofs.Choices.{list_vars, IsFineBeside, fine-join_left, fine-join_right, fine-left_join_left, fine-left_join_right, ShareRoots, sides_share}
use Rattle.pattern_tree.proofs.Nodes.{at_front, at_back, at_either, at_map, from_map, below-HasParent}
use Rattle.pattern_tree.proofs.RootedSets.{root_has_none}
use Rattle.pattern_tree.proofs.Standing.{stands-joined, stands-optional, stands-listed}

-- ---- what stands there and what occurs there

pub occurs_by : (tree : List TreeNode) (k v : ℕ) → OccursAt tree k v → (p : TriplePat) × StandsAt tree k p × Contains (triple_vars p) v
occurs_by tree k v occurs =
    let from = source-flat_map triple_vars occurs.node.patterns v occurs.among in
    (from.0, record { node = occurs.node; stands = occurs.stands; among = from.1 }, from.2)

pub by_occurs : (tree : List TreeNode) (k v : ℕ) (p : TriplePat) → StandsAt tree k p → Contains (triple_vars p) v → OccursAt tree k v
by_occurs tree k v p s has = record { node = s.node; stands = s.stands; among = Contains-flat_map triple_vars s.node.patterns p v s.among has }

root_occurs : (pattern : Algebra) (v : ℕ) → Contains (list_vars (root_patterns pattern)) v → OccursAt (tree_of pattern) 0 v
root_occurs pattern v at = record { node = record { parent = None; patterns = root_patterns pattern }; stands = refl; among = at }

-- the variables of a triple pattern are of the pattern
listed_vars : (pattern : Algebra) (p : TriplePat) (v : ℕ) → Contains (triple_patterns pattern) p → Contains (triple_vars p) v → Contains (vars_of pattern) v
listed_vars (Bgp list) p v at has = Contains-flat_map triple_vars list p v at has
listed_vars (Join left right) p v at has = elim (Contains-append_cases (triple_patterns left) (triple_patterns right) p at) as (λ _. Contains (vars_of left ++ vars_of right) v) [
  | inl there ↦ Contains-append_left (vars_of left) (vars_of right) v (listed_vars left p v there has)
  | inr there ↦ Contains-append_right (vars_of left) (vars_of right) v (listed_vars right p v there has)
]
listed_vars (LeftJoin left right) p v at has = elim (Contains-append_cases (triple_patterns left) (triple_patterns right) p at) as (λ _. Contains (vars_of left ++ vars_of right) v) [
  | inl there ↦ Contains-append_left (vars_of left) (vars_of right) v (listed_vars left p v there has)
  | inr there ↦ Contains-append_right (vars_of left) (vars_of right) v (listed_vars right p v there has)
]

stands_vars : (pattern : Algebra) (k : ℕ) (p : TriplePat) (v : ℕ) → StandsAt (tree_of pattern) k p → Contains (triple_vars p) v → Contains (vars_of pattern) v
stands_vars pattern k p v s has = listed_vars pattern p v (stands-listed pattern k p s) has

-- ---- the tree of a part within the tree of the whole

pub record HasNode (whole : List TreeNode) (place : ℕ → ℕ) (k : ℕ) (node : TreeNode) : Type 0 where
  pub at : TreeNode
  pub is : slice_get whole (place k) ≡ Some at
  pub more : (p : TriplePat) → Contains node.patterns p → Contains at.patterns p
  pub hangs : (parent : ℕ) → node.parent ≡ Some parent → at.parent ≡ Some (place parent)

-- each node of the part is a node of the whole at its place, with the same parent, and with all its triple patterns
pub record IsPartBy (part whole : List TreeNode) (place : ℕ → ℕ) : Type 0 where
  pub node : (k : ℕ) (node : TreeNode) → slice_get part k ≡ Some node → HasNode whole place k node

pub stands_by : (part whole : List TreeNode) (place : ℕ → ℕ) (k : ℕ) (p : TriplePat) → IsPartBy part whole place → StandsAt part k p → StandsAt whole (place k) p
stands_by part whole place k p is s =
    let has = is.node k s.node s.stands in
    record { node = has.at; stands = has.is; among = has.more p s.among }

occurs_in : (part whole : List TreeNode) (place : ℕ → ℕ) (k v : ℕ) → IsPartBy part whole place → OccursAt part k v → OccursAt whole (place k) v
occurs_in part whole place k v is occurs =
    let by = occurs_by part k v occurs in
    by_occurs whole (place k) v by.0 (stands_by part whole place k by.0 is by.1) by.2

within_by : (part whole : List TreeNode) (place : ℕ → ℕ) (top k : ℕ) → IsPartBy part whole place → IsWithin part top k → IsWithin whole (place top) (place k)
within_by part whole place top k is itself = itself
within_by part whole place top k is (below {parent = parent} node stands has rest) =
    let there = is.node k node stands in
    below there.at there.is (there.hangs parent has) (within_by part whole place top parent is rest)

-- the root is within no other node
root_alone : (pattern : Algebra) (top k : ℕ) → IsWithin (tree_of pattern) top k → k ≡ 0 → top ≡ 0
root_alone pattern top k itself is = is
root_alone pattern top k (below {parent = parent} node stands has rest) is =
    root_has_none (root_patterns pattern) node parent (subst (λ k. slice_get (tree_of pattern) k ≡ Some node) is stands) has

-- ---- the sides of a Join

module _ (left right : Algebra) where
  abbrev d : ℕ
  d = length (nodes_below left)

  pub left_joined : IsPartBy (tree_of left) (tree_of (Join left right)) (λ k. k)
  left_joined = record { node = each } where
    each : (k : ℕ) (node : TreeNode) → slice_get (tree_of left) k ≡ Some node → HasNode (tree_of (Join left right)) (λ k. k) k node
    each zero node is =
        let root : record { parent = None; patterns = root_patterns left } ≡ node = cc in
        record {
          at = record { parent = None; patterns = root_patterns left ++ root_patterns right };
          is = refl;
          more = λ p at. Contains-append_left (root_patterns left) (root_patterns right) p (subst (λ node. Contains node.patterns p) (sym root) at);
          hangs = λ parent has. root_has_none (root_patterns left) node parent is has;
        }
    each (suc k) node is = record { at = node; is = at_front (nodes_below left) (map (moved d) (nodes_below right)) k node is; more = λ p at. at; hangs = λ parent has. has }

  pub right_joined : IsPartBy (tree_of right) (tree_of (Join left right)) (moved_parent d)
  right_joined = record { node = each } where
    each : (k : ℕ) (node : TreeNode) → slice_get (tree_of right) k ≡ Some node → HasNode (tree_of (Join left right)) (moved_parent d) k node
    each zero node is =
        let root : record { parent = None; patterns = root_patterns right } ≡ node = cc in
        record {
          at = record { parent = None; patterns = root_patterns left ++ root_patterns right };
          is = refl;
          more = λ p at. Contains-append_right (root_patterns left) (root_patterns right) p (subst (λ node. Contains node.patterns p) (sym root) at);
          hangs = λ parent has. root_has_none (root_patterns right) node parent is has;
        }
    each (suc k) node is = record {
      at = moved d node;
      is = at_back (nodes_below left) (map (moved d) (nodes_below right)) k ∙ at_map (moved d) (nodes_below right) k node is;
      more = λ p at. at;
      hangs = λ parent has. ap (moved_option d) has;
    }

  -- ---- and of a LeftJoin

  pub left_optional : IsPartBy (tree_of left) (tree_of (LeftJoin left right)) (λ k. k)
  left_optional = record { node = each } where
    each : (k : ℕ) (node : TreeNode) → slice_get (tree_of left) k ≡ Some node → HasNode (tree_of (LeftJoin left right)) (λ k. k) k node
    each zero node is = record { at = node; is = is; more = λ p at. at; hangs = λ parent has. has }
    each (suc k) node is = record { at = node; is = at_front (nodes_below left) (map (hung d) (tree_of right)) k node is; more = λ p at. at; hangs = λ parent has. has }

  abbrev pub hung_place : ℕ → ℕ
  hung_place k = suc (k + d)

  pub right_optional : IsPartBy (tree_of right) (tree_of (LeftJoin left right)) hung_place
  right_optional = record { node = each } where
    each : (k : ℕ) (node : TreeNode) → slice_get (tree_of right) k ≡ Some node → HasNode (tree_of (LeftJoin left right)) hung_place k node
    each k node is = record {
      at = hung d node;
      is = at_back (nodes_below left) (map (hung d) (tree_of right)) k ∙ at_map (hung d) (tree_of right) k node is;
      more = λ p at. at;
      hangs = λ parent has. ap (λ parent. Some (hung_parent d parent)) has;
    }

-- ---- from the sides to the whole

-- a node of a side that is not its root: where the variable occurs elsewhere in the side, or in the side's root
module _ (side : Algebra) (whole : List TreeNode) (place : ℕ → ℕ) (is : IsPartBy (tree_of side) whole place) (connected : IsConnected (tree_of side)) where
  within_side : (k parent other v : ℕ) (node : TreeNode) → slice_get (tree_of side) k ≡ Some node → node.parent ≡ Some parent → OccursAt (tree_of side) k v →
      OccursAt (tree_of side) other v → ¬ IsWithin whole (place k) (place other) → OccursAt whole (place parent) v
  within_side k parent other v node at has occurs occurs' apart =
      occurs_in (tree_of side) whole place parent v is (connected.up k parent other v node at has occurs occurs' (λ within. apart (within_by (tree_of side) whole place k other is within)))

  beside_side : (k parent v : ℕ) (node : TreeNode) → slice_get (tree_of side) k ≡ Some node → node.parent ≡ Some parent → OccursAt (tree_of side) k v →
      Contains (list_vars (root_patterns side)) v → OccursAt whole (place parent) v
  beside_side k parent v node at has occurs in_root =
      occurs_in (tree_of side) whole place parent v is (connected.up k parent 0 v node at has occurs (root_occurs side v in_root) (λ within. not_root k node at has (root_alone side k 0 within refl))) where
        not_root : (k : ℕ) (node : TreeNode) → slice_get (tree_of side) k ≡ Some node → node.parent ≡ Some parent → k ≡ 0 → ⊥
        not_root k node at has is_zero = root_has_none (root_patterns side) node parent (subst (λ k. slice_get (tree_of side) k ≡ Some node) is_zero at) has

-- where a node of the whole comes from
pub record IsNodeOf (side : Algebra) (place : ℕ → ℕ) (k parent : ℕ) (node : TreeNode) : Type 0 where
  pub own : ℕ
  pub own_parent : ℕ
  pub at : TreeNode
  pub is : slice_get (tree_of side) own ≡ Some at
  pub has : at.parent ≡ Some own_parent
  pub same : at.patterns ≡ node.patterns
  pub placed : place own ≡ k
  pub parent_placed : place own_parent ≡ parent

some_one : (a b : ℕ) → Some a ≡ Some b → a ≡ b
some_one a b e = cc

node-joined : (left right : Algebra) (k parent : ℕ) (node : TreeNode) → slice_get (tree_of (Join left right)) k ≡ Some node → node.parent ≡ Some parent →
    IsNodeOf left (λ k. k) k parent node ⊎ IsNodeOf right (moved_parent (length (nodes_below left))) k parent node
node-joined left right zero parent node is has = root_has_none (root_patterns left ++ root_patterns right) node parent is has
node-joined left right (suc k) parent node is has =
    let d = length (nodes_below left) in
    elim (at_either (nodes_below left) (map (moved d) (nodes_below right)) k node is) as (λ _. IsNodeOf left (λ k. k) (suc k) parent node ⊎ IsNodeOf right (moved_parent d) (suc k) parent node) [
      | inl front ↦ inl (record { own = suc k; own_parent = parent; at = node; is = front.1; has = has; same = refl; placed = refl; parent_placed = refl })
      | inr back ↦
          let from = from_map (moved d) (nodes_below right) back.0 node back.2 in
          let up = below-HasParent right back.0 from.0 from.1 in
          let e : Some (moved_parent d up.parent) ≡ Some parent = sym (ap (moved_option d) up.is) ∙ ap (λ node. node.parent) from.2 ∙ has in
          inr (record {
            own = suc back.0;
            own_parent = up.parent;
            at = from.0;
            is = from.1;
            has = up.is;
            same = ap (λ node. node.patterns) from.2;
            placed = (let e = back.1 in omega arith);
            parent_placed = some_one (moved_parent d up.parent) parent e;
          })
    ]

-- of a LeftJoin: a node of the left side, the root of the right side, or another node of the right side
record IsHungRoot (left right : Algebra) (k parent : ℕ) (node : TreeNode) : Type 0 where
  placed : hung_place left right 0 ≡ k
  is_root : parent ≡ 0
  same : root_patterns right ≡ node.patterns

node-optional : (left right : Algebra) (k parent : ℕ) (node : TreeNode) → slice_get (tree_of (LeftJoin left right)) k ≡ Some node → node.parent ≡ Some parent →
    IsNodeOf left (λ k. k) k parent node ⊎ (IsHungRoot left right k parent node ⊎ IsNodeOf right (hung_place left right) k parent node)
node-optional left right zero parent node is has = root_has_none (root_patterns left) node parent is has
node-optional left right (suc k) parent node is has =
    let d = length (nodes_below left) in
    elim (at_either (nodes_below left) (map (hung d) (tree_of right)) k node is) as (λ _. IsNodeOf left (λ k. k) (suc k) parent node ⊎ (IsHungRoot left right (suc k) parent node ⊎ IsNodeOf right (hung_place left right) (suc k) parent node)) [
      | inl front ↦ inl (record { own = suc k; own_parent = parent; at = node; is = front.1; has = has; same = refl; placed = refl; parent_placed = refl })
      | inr back ↦ inr (from_right back.0 back.1 (from_map (hung d) (tree_of right) back.0 node back.2))
    ] where
      from_right : (j : ℕ) → k ≡ j + length (nodes_below left) → (from : TreeNode) × (slice_get (tree_of right) j ≡ Some from) × (hung (length (nodes_below left)) from ≡ node) →
          IsHungRoot left right (suc k) parent node ⊎ IsNodeOf right (hung_place left right) (suc k) parent node
      from_right zero at from =
          let d = length (nodes_below left) in
          let is : Some (record { parent = None; patterns = root_patterns right }) ≡ Some from.0 = from.1 in
          let root : record { parent = None; patterns = root_patterns right } ≡ from.0 = cc in
          let same : hung d (record { parent = None; patterns = root_patterns right }) ≡ node = ap (hung d) root ∙ from.2 in
          let e : Some 0 ≡ Some parent = ap (λ node. node.parent) same ∙ has in
          inl (record {
            placed = omega (arith, at);
            is_root = sym (some_one 0 parent e);
            same = ap (λ node. node.patterns) same;
          })
      from_right (suc j) at from =
          let d = length (nodes_below left) in
          let up = below-HasParent right j from.0 from.1 in
          let e : Some (suc (up.parent + d)) ≡ Some parent = sym (ap (λ parent. Some (hung_parent d parent)) up.is) ∙ ap (λ node. node.parent) from.2 ∙ has in
          inr (record {
            own = suc j;
            own_parent = up.parent;
            at = from.0;
            is = from.1;
            has = up.is;
            same = ap (λ node. node.patterns) from.2;
            placed = omega (arith, at);
            parent_placed = some_one (suc (up.parent + d)) parent e;
          })

-- what occurs at a node occurs at the node of the side
occurs_own : (side : Algebra) (place : ℕ → ℕ) (whole : List TreeNode) (k parent v : ℕ) (node : TreeNode) → slice_get whole k ≡ Some node → (from : IsNodeOf side place k parent node) → OccursAt whole k v → OccursAt (tree_of side) from.own v
occurs_own side place whole k parent v node is from occurs =
    let one : Some node ≡ Some occurs.node = sym is ∙ occurs.stands in
    let same : node ≡ occurs.node = cc in
    record {
      node = from.at;
      stands = from.is;
      among = subst (λ patterns. Contains (list_vars patterns) v) (sym from.same) (subst (λ node. Contains (list_vars node.patterns) v) (sym same) occurs.among);
    }

own_var : (side : Algebra) (k v : ℕ) → OccursAt (tree_of side) k v → Contains (vars_of side) v
own_var side k v occurs = let by = occurs_by (tree_of side) k v occurs in stands_vars side k by.0 v by.1 by.2

-- a variable at a node of a side that stands at another place of the whole occurs at the node's parent
module _ (side : Algebra) (whole : List TreeNode) (place : ℕ → ℕ) (is : IsPartBy (tree_of side) whole place) (connected : IsConnected (tree_of side)) (k parent v : ℕ) (node : TreeNode)
    (stands : slice_get whole k ≡ Some node) (from : IsNodeOf side place k parent node) (occurs : OccursAt whole k v) where
  pub own_occurs : OccursAt (tree_of side) from.own v
  own_occurs = occurs_own side place whole k parent v node stands from occurs

  pub up_within : (other j : ℕ) → other ≡ place j → OccursAt (tree_of side) j v → ¬ IsWithin whole k other → OccursAt whole parent v
  up_within other j at occurs' apart =
      subst (λ parent. OccursAt whole parent v) from.parent_placed
      (within_side side whole place is connected from.own from.own_parent j v from.at from.is from.has own_occurs occurs'
      (λ within. apart (subst (λ k. IsWithin whole k other) from.placed (subst (λ other. IsWithin whole (place from.own) other) (sym at) within))))

  pub up_beside : Contains (list_vars (root_patterns side)) v → OccursAt whole parent v
  up_beside in_root =
      subst (λ parent. OccursAt whole parent v) from.parent_placed
      (beside_side side whole place is connected from.own from.own_parent v from.at from.is from.has own_occurs in_root)

-- ---- every node of a tree is within the tree

-- a node that is there has a number below how many there are
pub node_low : (tree : List TreeNode) (k : ℕ) (node : TreeNode) → slice_get tree k ≡ Some node → k < length tree
node_low [] k node is = cc
node_low (root ∷ tree) zero node is = omega arith
node_low (root ∷ tree) (suc k) node is = let low = node_low tree k node is in omega (arith, low)

-- and at each such number there is one
pub node_there : (tree : List TreeNode) (k : ℕ) → k < length tree → (node : TreeNode) × (slice_get tree k ≡ Some node)
node_there [] k low = absurd (omega (arith, low))
node_there (root ∷ tree) zero low = (root, refl)
node_there (root ∷ tree) (suc k) low = node_there tree k (omega (arith, low))

all_within : (pattern : Algebra) (bound k : ℕ) → k < bound → (node : TreeNode) → slice_get (tree_of pattern) k ≡ Some node → IsWithin (tree_of pattern) 0 k
all_within pattern zero k low node is = absurd (omega (arith, low))
all_within pattern (suc bound) zero low node is = itself
all_within pattern (suc bound) (suc k) low node is =
    let up = below-HasParent pattern k node is in
    let few = node_low (tree_of pattern) (suc k) node is in
    let earlier = up.low in
    let there = node_there (tree_of pattern) up.parent (omega (arith, earlier, few)) in
    below node is up.is (all_within pattern bound up.parent (omega (arith, low, earlier)) there.0 there.1)

-- ---- connected by parts

connected_joined : (left right : Algebra) → ShareRoots left right → IsConnected (tree_of left) → IsConnected (tree_of right) → IsConnected (tree_of (Join left right))
connected_joined left right share of_left of_right =
    let whole = tree_of (Join left right) in
    let move = moved_parent (length (nodes_below left)) in
    record {
      up = λ k parent other v node is has occurs occurs' apart.
          let by = occurs_by whole other v occurs' in
          elim (node-joined left right k parent node is has) as (λ _. OccursAt whole parent v) [
            | inl from ↦
                let mine = own_var left from.own v (own_occurs left whole (λ k. k) (left_joined left right) of_left k parent v node is from occurs) in
                elim (stands-joined left right other by.0 by.1) as (λ _. OccursAt whole parent v) [
                  | inl there ↦ up_within left whole (λ k. k) (left_joined left right) of_left k parent v node is from occurs other other refl (by_occurs (tree_of left) other v by.0 there by.2) apart
                  | inr there ↦ up_beside left whole (λ k. k) (left_joined left right) of_left k parent v node is from occurs (share.in_left v mine (stands_vars right there.0 by.0 v there.2 by.2))
                ]
            | inr from ↦
                let mine = own_var right from.own v (own_occurs right whole move (right_joined left right) of_right k parent v node is from occurs) in
                elim (stands-joined left right other by.0 by.1) as (λ _. OccursAt whole parent v) [
                  | inl there ↦ up_beside right whole move (right_joined left right) of_right k parent v node is from occurs (share.in_right v (stands_vars left other by.0 v there by.2) mine)
                  | inr there ↦ up_within right whole move (right_joined left right) of_right k parent v node is from occurs other there.0 there.1 (by_occurs (tree_of right) there.0 v by.0 there.2 by.2) apart
                ]
          ];
    }

-- the root of a right side hangs from the root
hung_root_up : (left right : Algebra) → ShareRoots left right → (k parent other v : ℕ) (node : TreeNode) → slice_get (tree_of (LeftJoin left right)) k ≡ Some node → IsHungRoot left right k parent node →
    OccursAt (tree_of (LeftJoin left right)) k v → OccursAt (tree_of (LeftJoin left right)) other v → ¬ IsWithin (tree_of (LeftJoin left right)) k other → OccursAt (tree_of (LeftJoin left right)) parent v
hung_root_up left right share k parent other v node is root occurs occurs' apart =
    let whole = tree_of (LeftJoin left right) in
    let one : Some node ≡ Some occurs.node = sym is ∙ occurs.stands in
    let same : node ≡ occurs.node = cc in
    let in_root : Contains (list_vars (root_patterns right)) v = subst (λ patterns. Contains (list_vars patterns) v) (sym root.same) (subst (λ node. Contains (list_vars node.patterns) v) (sym same) occurs.among) in
    let mine = own_var right 0 v (root_occurs right v in_root) in
    let by = occurs_by whole other v occurs' in
    elim (stands-optional left right other by.0 by.1) as (λ _. OccursAt whole parent v) [
      | inl there ↦
          let above = root_occurs left v (share.in_left v (stands_vars left other by.0 v there by.2) mine) in
          subst (λ parent. OccursAt whole parent v) (sym root.is_root) (occurs_in (tree_of left) whole (λ k. k) 0 v (left_optional left right) above)
      | inr there ↦
          let s = there.2 in
          let within = all_within right (suc there.0) there.0 (omega arith) s.node s.stands in
          let there_within = within_by (tree_of right) whole (hung_place left right) 0 there.0 (right_optional left right) within in
          absurd (apart (subst (λ k. IsWithin whole k other) root.placed (subst (λ other. IsWithin whole (hung_place left right 0) other) (sym there.1) there_within)))
    ]

connected_optional : (left right : Algebra) → ShareRoots left right → IsConnected (tree_of left) → IsConnected (tree_of right) → IsConnected (tree_of (LeftJoin left right))
connected_optional left right share of_left of_right =
    let whole = tree_of (LeftJoin left right) in
    let place = hung_place left right in
    record {
      up = λ k parent other v node is has occurs occurs' apart.
          let by = occurs_by whole other v occurs' in
          elim (node-optional left right k parent node is has) as (λ _. OccursAt whole parent v) [
            | inl from ↦
                let mine = own_var left from.own v (own_occurs left whole (λ k. k) (left_optional left right) of_left k parent v node is from occurs) in
                elim (stands-optional left right other by.0 by.1) as (λ _. OccursAt whole parent v) [
                  | inl there ↦ up_within left whole (λ k. k) (left_optional left right) of_left k parent v node is from occurs other other refl (by_occurs (tree_of left) other v by.0 there by.2) apart
                  | inr there ↦ up_beside left whole (λ k. k) (left_optional left right) of_left k parent v node is from occurs (share.in_left v mine (stands_vars right there.0 by.0 v there.2 by.2))
                ]
            | inr (inl root) ↦ hung_root_up left right share k parent other v node is root occurs occurs' apart
            | inr (inr from) ↦
                let mine = own_var right from.own v (own_occurs right whole place (right_optional left right) of_right k parent v node is from occurs) in
                elim (stands-optional left right other by.0 by.1) as (λ _. OccursAt whole parent v) [
                  | inl there ↦ up_beside right whole place (right_optional left right) of_right k parent v node is from occurs (share.in_right v (stands_vars left other by.0 v there by.2) mine)
                  | inr there ↦ up_within right whole place (right_optional left right) of_right k parent v node is from occurs other there.0 there.1 (by_occurs (tree_of right) there.0 v by.0 there.2 by.2) apart
                ]
          ];
    }

connected_bgp : (list : List TriplePat) → IsConnected (tree_of (Bgp list))
connected_bgp list = record { up = only } where
  only : (k parent other v : ℕ) (node : TreeNode) → slice_get (tree_of (Bgp list)) k ≡ Some node → node.parent ≡ Some parent →
      OccursAt (tree_of (Bgp list)) k v → OccursAt (tree_of (Bgp list)) other v → ¬ IsWithin (tree_of (Bgp list)) k other → OccursAt (tree_of (Bgp list)) parent v
  only zero parent other v node is has occurs occurs' apart = root_has_none list node parent is has
  only (suc k) parent other v node is has occurs occurs' apart = cc

connected_beside : (pattern : Algebra) (outside : List ℕ) → IsFineBeside outside pattern → IsConnected (tree_of pattern)
connected_beside (Bgp list) outside fine = connected_bgp list
connected_beside (Join left right) outside fine =
    let fine_left = fine-join_left outside left right fine in
    let fine_right = fine-join_right outside left right fine in
    connected_joined left right (sides_share outside left right fine_left fine_right)
    (connected_beside left (outside ++ vars_of right) fine_left) (connected_beside right (outside ++ vars_of left) fine_right)
connected_beside (LeftJoin left right) outside fine =
    let fine_left = fine-left_join_left outside left right fine in
    let fine_right = fine-left_join_right outside left right fine in
    connected_optional left right (sides_share outside left right fine_left fine_right)
    (connected_beside left (outside ++ vars_of right) fine_left) (connected_beside right (outside ++ vars_of left) fine_right)

pub tree-connected : (pattern : Algebra) → IsWellDesigned pattern → IsConnected (tree_of pattern)
tree-connected pattern fine = connected_beside pattern [] fine
