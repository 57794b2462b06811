-- A tree of patterns as the test for simple trees takes it: parents, where the triple patterns of each node end, and sets of
-- variables.
use Rattle.std.specs.Prelude.{◌≡◌, ℕ, ◌+◌, ◌<◌, List, [], ◌∷◌, map, length, Some, slice_get}
use Rattle.std.specs.List.{flat_map}
use Rattle.join_graph.specs.Chains.{IsConnected}
use Rattle.minimality_laws.specs.SimpleTree.{sets_of}
use Rattle.pattern_tree.specs.Tree.{TreeNode}
use Rattle.pruning_laws.specs.SceneOf.{number_of}

-- the number of each node's parent, and 0 for the root
abbrev pub parents_of : List TreeNode → List ℕ
parents_of tree = map (λ node. number_of node.parent) tree

-- where the triple patterns of each node end, where those before end at n
abbrev pub ends_from : ℕ → List TreeNode → List ℕ
ends_from n [] = []
ends_from n (node ∷ nodes) = (n + length node.patterns) ∷ ends_from (n + length node.patterns) nodes

abbrev pub ends_of : List TreeNode → List ℕ
ends_of tree = ends_from 0 tree

-- the sets of the variables of all triple patterns, node after node
abbrev pub sets_in : List TreeNode → List ℕ
sets_in tree = flat_map sets_of tree

-- each node but the root is connected
abbrev pub AreConnected : List TreeNode → Type 0
AreConnected tree = (k : ℕ) (node : TreeNode) → 0 < k → slice_get tree k ≡ Some node → IsConnected (sets_of node)
