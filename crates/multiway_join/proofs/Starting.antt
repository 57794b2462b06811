-- Where the search starts: rows in which nothing is bound, and nodes that can be joined.
use Rattle.std.proofs.Common.{◌≡◌, ℕ, zero, suc, ◌<◌, ◌≤◌, ◌++◌, List, [], ◌∷◌, length, take, replicate, get_or, All, Option, Some, None, IfSome, refl, sym, ◌∙◌, ap, subst, arith}
use Rattle.std.specs.Prelude.{slice_get}
use Rattle.std.proofs.Math.Bridge.{le_prop}
use Rattle.std.proofs.Math.Logic.{∥∥₁_elim}
use Rattle.std.proofs.lemmas.List.{take-replicate}
use Rattle.std.proofs.lemmas.List.Elements.{All-nil, All-cons, All-head, All-tail, Contains-get_or}
use Rattle.std.proofs.lemmas.List.Sorted.{All-permutation}
use Rattle.std.proofs.lemmas.Option.{slice_get-get_or}
use Rattle.alg_model.specs.declared.pattern.TriplePat.{TriplePat}
use Rattle.alg_model.specs.Pattern.{Algebra, Bgp, triple_vars, vars_of}
use Rattle.alg_model.proofs.Lists.{Contains-flat_map}
use Rattle.pattern_tree.specs.PatternTree.{IsPatternTree}
use Rattle.pattern_tree.specs.Standing.{OccursAt}
use Rattle.pattern_tree.specs.Tree.{TreeNode, tree_of}
use Rattle.pattern_tree.proofs.Connected.{node_low}
use Rattle.pattern_tree.proofs.TreeSizes.{few_nodes}
use Rattle.tree_relations.specs.declared.prepared.Prepared.{Prepared}
use Rattle.tree_relations.specs.Fits.{FitsTree}
use Rattle.multiway_join.proofs.FlatLaws.{tree_root, tree_parents}
use Rattle.multiway_join.specs.JoinOrder.{IsNodeOrder, AreNodeOrders}
use Rattle.multiway_join.specs.steps.Binding.{CanJoin}
use Rattle.multiway_join.specs.steps.Search.{CanJoinNode}

-- the first so many zeros
pub take_zeros : (vars n : ℕ) (xs : List ℕ) → n ≡ vars → xs ≡ replicate 64 0 → vars ≤ 64 → take vars xs ≡ replicate n 0
take_zeros vars n xs same is low = ap (take vars) is ∙ take-replicate vars 64 0 low ∙ ap (λ n. replicate n 0) (sym same)

-- ---- the nodes of a tree

-- a parent comes before
parent_first : (pattern : Algebra) (k parent : ℕ) (node : TreeNode) → slice_get (tree_of pattern) k ≡ Some node → node.parent ≡ Some parent → parent < k
parent_first pattern zero parent node at has = (let none = (tree_root pattern).none node at in absurd (cc))
parent_first pattern (suc k) parent node at has =
    let up = (tree_parents pattern).before (suc k) node (omega arith) at in
    let same : up.0 ≡ parent = (let is = up.1 in cc) in
    let first = up.2 in
    omega (arith, same, first)

module _ (tree : List TreeNode) (is : ∥ IsPatternTree tree ∥₁) where
  -- a parent comes before
  parent_low : (k : ℕ) (node : TreeNode) → slice_get tree k ≡ Some node → IfSome node.parent (λ parent. parent < 64)
  parent_low k node at = by node.parent refl
    where
      by : (parent : Option ℕ) → node.parent ≡ parent → IfSome parent (λ parent. parent < 64)
      by None has = tt
      by (Some parent) has = ∥∥₁_elim is le_prop (λ whole.
          let at' = subst (λ tree. slice_get tree k ≡ Some node) whole.is at in
          let first = parent_first whole.pattern k parent node at' has in
          let low = node_low tree k node at in
          let few = few_nodes tree is in
          omega (arith, first, low, few))

  module _ (p : Prepared) (fits : FitsTree tree p) (width : ℕ) (below : (k var : ℕ) → OccursAt tree k var → var < width) where
    pub can_join : All (CanJoinNode p width) tree
    can_join k d low =
        let node = get_or tree k d in
        let at : slice_get tree k ≡ Some node = slice_get-get_or tree k d low in
        record {
          parent = parent_low k node at;
          patterns = λ i q inside.
              let pattern = get_or node.patterns i q in
              let among = Contains-get_or node.patterns i q inside in
              let entry = fits.entries k pattern (record { node = node; stands = at; among = among }) in
              record {
                entry = entry.0;
                at = entry.1;
                below = λ var has. below k var (record { node = node; stands = at; among = Contains-flat_map triple_vars node.patterns pattern var among has });
              };
        }

-- ---- the same nodes in order

module _ (counts : TriplePat → ℕ) where
  pub as_many : (seen : List ℕ) (nodes ordered : List TreeNode) → AreNodeOrders counts seen nodes ordered → length ordered ≡ length nodes
  as_many seen [] [] are = refl
  as_many seen [] (first ∷ ordered) are = absurd are
  as_many seen (node ∷ nodes) [] are = absurd are
  as_many seen (node ∷ nodes) (first ∷ ordered) are = ap suc (as_many (seen ++ vars_of (Bgp first.patterns)) nodes ordered are.1)

  module _ (p : Prepared) (width : ℕ) where
    node_can : (seen : List ℕ) (node first : TreeNode) → IsNodeOrder counts seen node first → CanJoinNode p width node → CanJoinNode p width first
    node_can seen node first is can = record {
      parent = subst (λ parent. IfSome parent (λ parent. parent < 64)) is.parent can.parent;
      patterns = All-permutation (CanJoin p width) node.patterns first.patterns is.patterns can.patterns;
    }

    pub ordered_can : (seen : List ℕ) (nodes ordered : List TreeNode) → AreNodeOrders counts seen nodes ordered → All (CanJoinNode p width) nodes → All (CanJoinNode p width) ordered
    ordered_can seen [] [] are can = All-nil (CanJoinNode p width)
    ordered_can seen [] (first ∷ ordered) are can = absurd are
    ordered_can seen (node ∷ nodes) [] are can = absurd are
    ordered_can seen (node ∷ nodes) (first ∷ ordered) are can =
        All-cons (CanJoinNode p width) first ordered (node_can seen node first are.0 (All-head (CanJoinNode p width) node nodes can))
        (ordered_can (seen ++ vars_of (Bgp first.patterns)) nodes ordered are.1 (All-tail (CanJoinNode p width) node nodes can))
