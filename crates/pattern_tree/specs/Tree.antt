-- The tree of a well-designed pattern, after Letelier, Pérez, Pichler and Skritek. It is a list of its nodes in preorder:
-- node k is the k-th OPTIONAL of the text.
use Rattle.std.specs.Prelude.{◌≡◌, ℕ, zero, suc, ◌+◌, Bool, if◌then◌else◌, List, [], ◌∷◌, ◌++◌, map, length, Option, Some, None, IsTrue, slice_get}
use Rattle.alg_model.specs.declared.pattern.TriplePat.{TriplePat}
use Rattle.alg_model.specs.Pattern.{Algebra, Bgp, Join, LeftJoin}

-- a node: the number of its parent, and none for the root, and its triple patterns
pub record TreeNode : Type 0 where
  pub parent : Option ℕ
  pub patterns : List TriplePat

-- the triple patterns of the root
abbrev pub root_patterns : Algebra → List TriplePat
root_patterns (Bgp list) = list
root_patterns (Join left right) = root_patterns left ++ root_patterns right
root_patterns (LeftJoin left right) = root_patterns left

-- a node of a tree that comes d nodes later, below the same root
abbrev pub moved_parent : ℕ → ℕ → ℕ
moved_parent d zero = zero
moved_parent d (suc k) = suc (k + d)

abbrev pub moved_option : ℕ → Option ℕ → Option ℕ
moved_option d None = None
moved_option d (Some parent) = Some (moved_parent d parent)

abbrev pub moved : ℕ → TreeNode → TreeNode
moved d node = record { parent = moved_option d node.parent; patterns = node.patterns }

-- a node of a tree that hangs from the root of another, after d nodes below that root
abbrev pub hung_parent : ℕ → Option ℕ → ℕ
hung_parent d None = 0
hung_parent d (Some parent) = suc (parent + d)

abbrev pub hung : ℕ → TreeNode → TreeNode
hung d node = record { parent = Some (hung_parent d node.parent); patterns = node.patterns }

-- The nodes below the root. Those of a Join are those of its left side, and then those of its right side. Those of a
-- LeftJoin are those of its left side, and then the tree of its right side, which hangs from the root.
abbrev pub nodes_below : Algebra → List TreeNode
nodes_below (Bgp list) = []
nodes_below (Join left right) = nodes_below left ++ map (moved (length (nodes_below left))) (nodes_below right)
nodes_below (LeftJoin left right) =
    nodes_below left ++ map (hung (length (nodes_below left))) (record { parent = None; patterns = root_patterns right } ∷ nodes_below right)

-- the tree
abbrev pub tree_of : Algebra → List TreeNode
tree_of pattern = record { parent = None; patterns = root_patterns pattern } ∷ nodes_below pattern

-- a set of nodes holds the root, and the parent of each node that it holds
pub record IsRooted (tree : List TreeNode) (set : ℕ → Bool) : Type 0 where
  pub root : IsTrue (set 0)
  pub parents : (k parent : ℕ) (node : TreeNode) → slice_get tree k ≡ Some node → node.parent ≡ Some parent → IsTrue (set k) → IsTrue (set parent)

-- the triple patterns of the nodes of a set
abbrev pub patterns_of : List TreeNode → (ℕ → Bool) → List TriplePat
patterns_of [] set = []
patterns_of (node ∷ nodes) set = (if set 0 then node.patterns else []) ++ patterns_of nodes (λ k. set (suc k))
