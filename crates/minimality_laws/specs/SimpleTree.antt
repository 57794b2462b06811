-- Simple trees of patterns: each node is a forest, and shares at most one variable with its parent.
use Rattle.std.specs.Prelude.{◌≡◌, ℕ, List, map, Some, slice_get}
use Rattle.alg_model.specs.VarSet.{triple_set}
use Rattle.join_graph.specs.Core.{IsForest}
use Rattle.pattern_tree.specs.Standing.{OccursAt}
use Rattle.pattern_tree.specs.Tree.{TreeNode}

-- the sets of the variables of a node's triple patterns
abbrev pub sets_of : TreeNode → List ℕ
sets_of node = map triple_set node.patterns

-- each node is a forest
abbrev pub AreForests : List TreeNode → Type 0
AreForests tree = (k : ℕ) (node : TreeNode) → slice_get tree k ≡ Some node → IsForest (sets_of node)

-- each node shares at most one variable with its parent
abbrev pub SharesOne : List TreeNode → Type 0
SharesOne tree = (k parent v w : ℕ) (node : TreeNode) → slice_get tree k ≡ Some node → node.parent ≡ Some parent →
    OccursAt tree k v → OccursAt tree parent v → OccursAt tree k w → OccursAt tree parent w → v ≡ w
