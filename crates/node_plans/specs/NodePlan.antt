-- What the passes of pruning take at one node of a tree: the pairs of an order of removal, where the node is a forest, and
-- all its edges otherwise.
use Rattle.std.specs.Prelude.{◌≡◌, ◌↔◌, ◌⊎◌, ◌<◌, ℕ, List}
use Rattle.join_graph.specs.declared.steps.Step.TheVariants.{Pattern, Variable}
use Rattle.join_graph.specs.Core.{IsForest}
use Rattle.join_graph.specs.Members.{Member, PatternHas}
use Rattle.pattern_tree.specs.Tree.{TreeNode}
use Rattle.pruning_laws.specs.Plans.{IsEdge, IsStripped, pairs_by, AreEdges}

-- the sets are the variables of the node's triple patterns, each at its place in the text; other places have none
abbrev pub AreSetsOf : List TreeNode → ℕ → List ℕ → Type 0
AreSetsOf tree k sets = (p v : ℕ) → PatternHas sets p v ↔ IsEdge tree k p v

-- the triple patterns and the variables of the node have an empty core
abbrev pub IsForestNode : List TreeNode → ℕ → Type 0
IsForestNode tree k = (sets : List ℕ) × AreSetsOf tree k sets × IsForest sets

-- the pairs are those of the removal of all members of the node
abbrev pub IsByRemoval : List TreeNode → ℕ → List (Member × Member) → Type 0
IsByRemoval tree k pairs = (sets : List ℕ) × (steps : List Member) × IsStripped tree k sets steps × (pairs ≡ pairs_by sets steps)

-- the pairs of one node: for each node of a tree, they are a plan of the tree
abbrev pub IsNodePlan : List TreeNode → ℕ → List (Member × Member) → Type 0
IsNodePlan tree k pairs = IsByRemoval tree k pairs ⊎ AreEdges tree k pairs

-- a triple pattern of the node and a variable that it has, one way or the other
abbrev pub IsNodePair : List TreeNode → ℕ → Member → Member → Type 0
IsNodePair tree k (Pattern p) (Variable v) = IsEdge tree k p v
IsNodePair tree k (Variable v) (Pattern p) = IsEdge tree k p v
IsNodePair tree k (Pattern p) (Pattern q) = ⊥
IsNodePair tree k (Variable v) (Variable w) = ⊥

-- a place of a triple pattern, or a variable, within the limits of a query
abbrev pub IsWithinLimits : Member → Type 0
IsWithinLimits (Pattern p) = p < 256
IsWithinLimits (Variable v) = v < 64

-- the edges of the node are within the limits of a query
abbrev pub HasLowEdges : List TreeNode → ℕ → Type 0
HasLowEdges tree k = (p v : ℕ) → IsEdge tree k p v → (p < 256) × (v < 64)
