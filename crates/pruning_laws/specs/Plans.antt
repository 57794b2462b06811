-- Which pairs the passes over a node may take: those of an order of removal, where the node is a forest, and all edges of
-- the node otherwise.
use Rattle.std.specs.Prelude.{◌≡◌, ◌↔◌, ◌⊎◌, ◌<◌, ℕ, List, length, Contains}
use Rattle.alg_model.specs.declared.pattern.TriplePat.{TriplePat}
use Rattle.alg_model.specs.Eval.{Interpretation}
use Rattle.alg_model.specs.Pattern.{Algebra, triple_vars}
use Rattle.join_graph.specs.declared.steps.Step.TheVariants.{Pattern, Variable}
use Rattle.join_graph.specs.Members.{Member, PatternHas}
use Rattle.join_graph.specs.Removal.{IsRemoval, RemovesAll}
use Rattle.pattern_tree.specs.Solution.{Family}
use Rattle.pattern_tree.specs.Standing.{StandsAt}
use Rattle.pattern_tree.specs.Tree.{TreeNode, tree_of}
use Rattle.pruning_laws.specs.Passes.{pairs_of}
use Rattle.pruning_laws.specs.SceneOf.{scene_of, lists_of}
use Rattle.pruning_laws.specs.Shown.{entry_of}
use Rattle.pruning_laws.specs.TreePasses.{are_near, tree_passes}

-- a triple pattern of node k has this place in the text, and the variable
pub record IsEdge (tree : List TreeNode) (k p v : ℕ) : Type 0 where
  pub pattern : TriplePat
  pub stands : StandsAt tree k pattern
  pub entry : entry_of pattern ≡ p
  pub has : Contains (triple_vars pattern) v

-- the sets are the variables of the node's triple patterns, each at its place in the text, and the steps remove all
-- members: the node is a forest
pub record IsStripped (tree : List TreeNode) (k : ℕ) (sets : List ℕ) (steps : List Member) : Type 0 where
  pub same : (p v : ℕ) → PatternHas sets p v ↔ IsEdge tree k p v
  pub removal : IsRemoval sets steps
  pub all : RemovesAll sets steps

-- the pairs of the removal of a forest's members
abbrev pub pairs_by : List ℕ → List Member → List (Member × Member)
pairs_by sets steps = pairs_of (are_near sets) steps

-- an edge, from the triple pattern to the variable
abbrev pub IsEdgePair : List TreeNode → ℕ → Member → Member → Type 0
IsEdgePair tree k (Pattern p) (Variable v) = IsEdge tree k p v
IsEdgePair tree k (Pattern p) (Pattern q) = ⊥
IsEdgePair tree k (Variable v) n = ⊥

-- the pairs are all edges of the node
pub record AreEdges (tree : List TreeNode) (k : ℕ) (pairs : List (Member × Member)) : Type 0 where
  pub each : (m n : Member) → Contains pairs (m, n) → IsEdgePair tree k m n
  pub all : (p v : ℕ) → IsEdge tree k p v → Contains pairs (Pattern p, Variable v)

-- for each node the pairs of its removal, or all its edges
abbrev pub IsPlanOf : List TreeNode → (ℕ → List (Member × Member)) → Type 0
IsPlanOf tree pairs = (k : ℕ) → k < length tree →
    ((sets : List ℕ) × (steps : List Member) × IsStripped tree k sets steps × (pairs k ≡ pairs_by sets steps)) ⊎ AreEdges tree k (pairs k)

-- a round over a family: what two passes over each node, from the root down, leave of it
abbrev pub round_of : {V X : Type 0} → Interpretation V X → Algebra → (ℕ → List (Member × Member)) → Family X → TriplePat → X → Type 0
round_of interpretation pattern pairs family part triple =
    tree_passes (scene_of (λ p. interpretation) pattern) pairs (length (tree_of pattern)) (λ p t. Contains (lists_of pattern family p) t) (entry_of part) triple
