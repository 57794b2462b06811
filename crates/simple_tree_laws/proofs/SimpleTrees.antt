-- The test over the numbers of a tree says whether the tree is simple.
use Rattle.std.proofs.Common.{◌≡◌, ◌↔◌, ℕ, zero, suc, ◌<◌, List, [], ◌∷◌, length, Some, Contains, sym, ◌∙◌, ap, subst, arith}
use Rattle.std.specs.Prelude.{slice_get, slice_index}
use Rattle.std.proofs.lemmas.List.{length-map}
use Rattle.alg_model.specs.Pattern.{Algebra}
use Rattle.join_graph.specs.Chains.{IsConnected}
use Rattle.join_graph.specs.Core.{IsForest}
use Rattle.join_graph.specs.Members.{OccursIn}
use Rattle.join_graph.specs.Nodes.{node_of, IsSimple, HangsFrom, SharesAtMostOne, ParentsComeFirst}
use Rattle.pattern_tree.specs.Standing.{OccursAt}
use Rattle.pattern_tree.specs.Tree.{TreeNode, tree_of}
use Rattle.pattern_tree.proofs.Choices.{list_vars}
use Rattle.pattern_tree.proofs.Connected.{node_low, node_there}
use Rattle.multiway_join.proofs.Complete.{HasParentsFirst}
use Rattle.multiway_join.proofs.FlatLaws.{tree_root, tree_parents}
use Rattle.multiway_join.proofs.Sound.{HasRoot}
use Rattle.pruning_laws.specs.SceneOf.{number_of}
use Rattle.pruning_laws.proofs.SceneShows.{no_pattern}
use Rattle.minimality_laws.specs.SimpleTree.{sets_of, AreForests, SharesOne}
use Rattle.minimality_laws.proofs.SetVars.{occurs_vars}
use Rattle.simple_tree_laws.specs.TreeSets.{parents_of, ends_of, sets_in, AreConnected}
use Rattle.simple_tree_laws.proofs.NodeSets.{sets_at, length-ends}

pub parent_at : (tree : List TreeNode) (k parent : ℕ) (node : TreeNode) → slice_get tree k ≡ Some node → node.parent ≡ Some parent → slice_index (parents_of tree) k ≡ parent
parent_at [] k parent node is has = cc
parent_at (first ∷ tree) zero parent node is has = let same : first ≡ node = cc in ap (λ node. number_of node.parent) same ∙ ap number_of has
parent_at (first ∷ tree) (suc k) parent node is has = parent_at tree k parent node is has

module _ (tree : List TreeNode) (k : ℕ) (node : TreeNode) (place : slice_get tree k ≡ Some node) where
  -- what occurs at a node occurs in its sets
  occurs_to : (v : ℕ) → OccursAt tree k v → OccursIn (sets_of node) v
  occurs_to v occurs = (occurs_vars node.patterns no_pattern v).1 (let is = occurs.stands in let same : occurs.node ≡ node = cc in subst (λ node. Contains (list_vars node.patterns) v) same occurs.among)

  occurs_from : (v : ℕ) → OccursIn (sets_of node) v → OccursAt tree k v
  occurs_from v occurs = record { node = node; stands = place; among = (occurs_vars node.patterns no_pattern v).0 occurs }

module _ (tree : List TreeNode) (root : HasRoot tree) (parents : HasParentsFirst tree) (some : 0 < length tree) where
  pub parents_first : ParentsComeFirst (parents_of tree)
  parents_first k positive low =
      let node = node_there tree k (omega (arith, low, length-map tree (λ (node : TreeNode). number_of node.parent))) in
      let up = parents.before k node.0 positive node.1 in
      let e = parent_at tree k up.0 node.0 node.1 up.1 in
      let first = up.2 in
      omega (arith, e, first)

  -- ---- from the numbers to the tree

  module _ (simple : IsSimple (parents_of tree) (ends_of tree) (sets_in tree)) where
    hangs : (k : ℕ) (node : TreeNode) → 0 < k → slice_get tree k ≡ Some node → HangsFrom (node_of (ends_of tree) (sets_in tree) k) (node_of (ends_of tree) (sets_in tree) (slice_index (parents_of tree) k))
    hangs k node positive place = simple.others k positive (let low = node_low tree k node place in omega (arith, low, length-ends 0 tree))

    are_forests : AreForests tree
    are_forests zero node place = subst IsForest (sets_at tree 0 node place) simple.root
    are_forests (suc k) node place = subst IsForest (sets_at tree (suc k) node place) (hangs (suc k) node (omega arith) place).forest

    are_connected : AreConnected tree
    are_connected k node positive place = subst IsConnected (sets_at tree k node place) (hangs k node positive place).connected

    share_one : SharesOne tree
    share_one zero parent v w node place has v_here v_up w_here w_up = (let none = root.none node place in absurd (cc))
    share_one (suc k) parent v w node place has v_here v_up w_here w_up =
        let low = node_low tree (suc k) node place in
        let up = parents.before (suc k) node (omega arith) place in
        let same : up.0 ≡ parent = (let is = up.1 in cc) in
        let first = up.2 in
        let above = node_there tree parent (omega (arith, low, same, first)) in
        let shared : SharesAtMostOne (sets_of node) (sets_of above.0) =
        subst (λ sets. SharesAtMostOne sets (sets_of above.0)) (sets_at tree (suc k) node place)
        (subst (SharesAtMostOne (node_of (ends_of tree) (sets_in tree) (suc k))) (ap (node_of (ends_of tree) (sets_in tree)) (parent_at tree (suc k) parent node place has) ∙ sets_at tree parent above.0 above.1)
        (hangs (suc k) node (omega arith) place).shared) in
        shared v w (occurs_to tree (suc k) node place v v_here, occurs_to tree parent above.0 above.1 v v_up) (occurs_to tree (suc k) node place w w_here, occurs_to tree parent above.0 above.1 w w_up)

  -- ---- and back

  module _ (forests : AreForests tree) (connected : AreConnected tree) (share : SharesOne tree) where
    hangs_from : (k : ℕ) → 0 < k → k < length (ends_of tree) → HangsFrom (node_of (ends_of tree) (sets_in tree) k) (node_of (ends_of tree) (sets_in tree) (slice_index (parents_of tree) k))
    hangs_from k positive low =
        let node = node_there tree k (omega (arith, low, length-ends 0 tree)) in
        let there = node_low tree k node.0 node.1 in
        let up = parents.before k node.0 positive node.1 in
        let first = up.2 in
        let above = node_there tree up.0 (omega (arith, there, first)) in
        let own = sets_at tree k node.0 node.1 in
        let own_up = ap (node_of (ends_of tree) (sets_in tree)) (parent_at tree k up.0 node.0 node.1 up.1) ∙ sets_at tree up.0 above.0 above.1 in
        let shared : SharesAtMostOne (sets_of node.0) (sets_of above.0) = λ v w at_v at_w.
        share k up.0 v w node.0 node.1 up.1 (occurs_from tree k node.0 node.1 v at_v.0) (occurs_from tree up.0 above.0 above.1 v at_v.1) (occurs_from tree k node.0 node.1 w at_w.0) (occurs_from tree up.0 above.0 above.1 w at_w.1) in
        record {
          forest = subst IsForest (sym own) (forests k node.0 node.1);
          connected = subst IsConnected (sym own) (connected k node.0 positive node.1);
          shared = subst (λ sets. SharesAtMostOne sets (node_of (ends_of tree) (sets_in tree) (slice_index (parents_of tree) k))) (sym own) (subst (SharesAtMostOne (sets_of node.0)) (sym own_up) shared);
        }

    simple_from : IsSimple (parents_of tree) (ends_of tree) (sets_in tree)
    simple_from = record {
      root = (let node = node_there tree 0 some in subst IsForest (sym (sets_at tree 0 node.0 node.1)) (forests 0 node.0 node.1));
      others = hangs_from;
    }

  pub simple_is : IsSimple (parents_of tree) (ends_of tree) (sets_in tree) ↔ (AreForests tree × AreConnected tree × SharesOne tree)
  simple_is = (λ simple. (are_forests simple, are_connected simple, share_one simple), λ is. simple_from is.0 is.1 is.2)

some_node : (pattern : Algebra) → 0 < length (tree_of pattern)
some_node pattern = omega arith

pub tree_is_simple : (pattern : Algebra) → IsSimple (parents_of (tree_of pattern)) (ends_of (tree_of pattern)) (sets_in (tree_of pattern)) ↔ (AreForests (tree_of pattern) × AreConnected (tree_of pattern) × SharesOne (tree_of pattern))
tree_is_simple pattern = simple_is (tree_of pattern) (tree_root pattern) (tree_parents pattern) (some_node pattern)

pub tree_parents_first : (pattern : Algebra) → ParentsComeFirst (parents_of (tree_of pattern))
tree_parents_first pattern = parents_first (tree_of pattern) (tree_root pattern) (tree_parents pattern) (some_node pattern)
