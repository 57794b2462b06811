-- Where triple patterns and variables stand in a tree of patterns.
use Rattle.std.specs.Prelude.{◌≡◌, ℕ, List, Some, Contains, slice_get}
use Rattle.alg_model.specs.declared.pattern.TriplePat.{TriplePat}
use Rattle.alg_model.specs.Pattern.{Bgp, vars_of}
use Rattle.pattern_tree.specs.Tree.{TreeNode}

-- the triple pattern is one of node k
pub record StandsAt (tree : List TreeNode) (k : ℕ) (pattern : TriplePat) : Type 0 where
  pub node : TreeNode
  pub stands : slice_get tree k ≡ Some node
  pub among : Contains node.patterns pattern

-- the variable occurs in a triple pattern of node k
pub record OccursAt (tree : List TreeNode) (k var : ℕ) : Type 0 where
  pub node : TreeNode
  pub stands : slice_get tree k ≡ Some node
  pub among : Contains (vars_of (Bgp node.patterns)) var

-- a node is within a subtree: it is the top, or its parent is within
pub data IsWithin (tree : List TreeNode) (top : ℕ) : ℕ → Type 0 where
  itself : IsWithin tree top top
  below : {k parent : ℕ} → (node : TreeNode) → slice_get tree k ≡ Some node → node.parent ≡ Some parent → IsWithin tree top parent → IsWithin tree top k

-- the nodes at which a variable occurs are connected: one that occurs at a node and outside of the node's subtree occurs
-- at the node's parent (the running intersection property)
pub record IsConnected (tree : List TreeNode) : Type 0 where
  pub up : (k parent other var : ℕ) (node : TreeNode) → slice_get tree k ≡ Some node → node.parent ≡ Some parent →
      OccursAt tree k var → OccursAt tree other var → ¬ IsWithin tree k other → OccursAt tree parent var

-- no two triple patterns of the tree have the same number
pub record IsNumbered (tree : List TreeNode) : Type 0 where
  pub one : (k j : ℕ) (pattern other : TriplePat) → StandsAt tree k pattern → StandsAt tree j other → pattern.number ≡ other.number → (k ≡ j) × (pattern ≡ other)
