-- Carries proofs only: what pruning leaves of a node, and of all nodes, in the words of passes over a scene that shows the tree.
use Rattle.std.specs.Prelude.{◌≡◌, ◌↔◌, ◌⊎◌, ◌<◌, ℕ, List, length, Option, Some, Contains, slice_get}
use Rattle.alg_model.specs.declared.pattern.TriplePat.{TriplePat}
use Rattle.cube_slices.specs.Lines.{pairs_of}
use Rattle.join_graph.specs.declared.steps.Step.TheVariants.{Pattern}
use Rattle.join_graph.specs.Members.{Member}
use Rattle.node_plans.specs.NodePlan.{IsByRemoval, IsForestNode, IsNodePair, IsNodePlan}
use Rattle.pattern_tree.specs.Standing.{StandsAt, IsWithin}
use Rattle.pattern_tree.specs.Tree.{TreeNode}
use Rattle.pruning_laws.specs.Plans.{IsEdge}
use Rattle.pruning_laws.specs.Scene.{Scene, Has, Gives, IsAtOrAbove, StandsIn, parent_in}
use Rattle.pruning_laws.specs.Shown.{entry_of}
use Rattle.pruning_laws.specs.TreePasses.{Holding, Triple, IsFilled, at_end, node_passes, tree_passes}
use Rattle.tree_relations.specs.declared.prepared.Entry.{Entry}
use Rattle.tree_relations.specs.declared.prepared.PlaceKind.{PlaceKind}
use Rattle.tree_relations.specs.declared.prepared.Prepared.{Prepared}
use Rattle.tree_relations.specs.Readings.{lists_left}
use Rattle.mask_steps.specs.Held.{GivesAt, HasValue, OccursAt}
use Rattle.prune_plan.specs.steps.Members.{is_left_of}

-- a triple pattern of node k has this place in the text
abbrev pub HasPlace : List TreeNode → ℕ → ℕ → Type 0
HasPlace tree k i = (pattern : TriplePat) × StandsAt tree k pattern × (entry_of pattern ≡ i)

-- the node has this parent
abbrev pub IsParent : List TreeNode → ℕ → ℕ → Type 0
IsParent tree k parent = (node : TreeNode) × (slice_get tree k ≡ Some node) × (node.parent ≡ Some parent)

-- a pair of the relation of the entry in this place, left or not
abbrev pub IsPairOf : Prepared → ℕ → ℕ × ℕ → Type 0
IsPairOf p i pair = (e : Entry) × (slice_get p.entries i ≡ Some e) × Contains (pairs_of e.rel.lines) pair

-- The scene shows the tree: its triple patterns stand where those of the tree do, with the same variables. Its items are
-- the pairs of the relations, which give the same values.
pub record IsSceneOf (tree : List TreeNode) (p : Prepared) (scene : Scene ℕ (ℕ × ℕ)) : Type 0 where
  pub nodes : length scene.parents ≡ length tree
  pub stands : (i k : ℕ) → StandsIn scene i k ↔ HasPlace tree k i
  pub edges : (k i v : ℕ) → (StandsIn scene i k × Has scene i v) ↔ IsEdge tree k i v
  pub above : (m k : ℕ) → k < length tree → IsAtOrAbove scene.parents m k ↔ IsWithin tree m k
  pub parents : (k parent : ℕ) → IsParent tree k parent → (0 < k) × (parent_in scene k ≡ parent)
  pub hangs : (k : ℕ) → 0 < k → k < length tree → IsParent tree k (parent_in scene k)
  pub gives : (i : ℕ) (pair : ℕ × ℕ) (v x : ℕ) → i < length scene.patterns → IsPairOf p i pair → Gives scene i pair v x ↔ GivesAt p i pair v x

-- what is left of the relations is what the triple patterns of the scene hold
abbrev pub IsLeft : Scene ℕ (ℕ × ℕ) → Holding (ℕ × ℕ) → Prepared → Type 0
IsLeft scene family p = (i : ℕ) (pair : ℕ × ℕ) → i < length scene.patterns → Contains (lists_left p i) pair ↔ family i pair

-- the values with which a variable of node k begins: those that occur in each triple pattern of the parent that has it
abbrev pub IsFirstValue : List TreeNode → Prepared → ℕ → ℕ → ℕ → Type 0
IsFirstValue tree p k v x = (parent i : ℕ) → IsParent tree k parent → IsEdge tree parent i v → OccursAt p i v x

-- a value of a variable that occurs in one triple pattern of node k occurs in each of them that has the variable
abbrev pub IsLevel : List TreeNode → Prepared → ℕ → Type 0
IsLevel tree p k = (i j v x : ℕ) → IsEdge tree k i v → IsEdge tree k j v → OccursAt p i v x → OccursAt p j v x

abbrev pub HasLevel : List TreeNode → Prepared → ℕ → Type 0
HasLevel tree p k = (scene : Scene ℕ (ℕ × ℕ)) → IsSceneOf tree p scene → IsLevel tree p k

-- the variable is reduced by one triple pattern of node k that has it, if there is one
abbrev pub IsReducedOnce : List TreeNode → ℕ → Prepared → List (Option PlaceKind) → Prepared → List (Option PlaceKind) → ℕ → Type 0
IsReducedOnce tree k old start new kinds v =
    (((i : ℕ) → ¬ IsEdge tree k i v) × ((x : ℕ) → HasValue new kinds v x ↔ HasValue old start v x))
    ⊎ ((i : ℕ) × IsEdge tree k i v × ((x : ℕ) → HasValue new kinds v x ↔ (HasValue old start v x × OccursAt old i v x)))

-- a pair is left of each triple pattern of the node
abbrev pub IsNodeFilled : List TreeNode → Prepared → ℕ → Type 0
IsNodeFilled tree p k = (pattern : TriplePat) → StandsAt tree k pattern → IsFilled (is_left_of p) (entry_of pattern)

-- and of each of the nodes above
abbrev pub IsAlive : List TreeNode → Prepared → ℕ → Type 0
IsAlive tree p k = (top : ℕ) → IsWithin tree top k → IsNodeFilled tree p top

-- the pairs that passes over the node take
pub record ArePairsOf (tree : List TreeNode) (k : ℕ) (pairs : List (Member × Member)) : Type 0 where
  pub plan : IsNodePlan tree k pairs
  pub forest : IsForestNode tree k → IsByRemoval tree k pairs
  pub each : (m n : Member) → Contains pairs (m, n) → IsNodePair tree k m n

-- the passes over the node leave this, before it is seen whether the node is emptied
abbrev pub IsReduced : List TreeNode → ℕ → Prepared → Prepared → Type 0
IsReduced tree k old new = (pairs : List (Member × Member)) × ArePairsOf tree k pairs ×
    ((scene : Scene ℕ (ℕ × ℕ)) → IsSceneOf tree old scene → IsLeft scene (λ i t. at_end scene k pairs (is_left_of old) (Pattern i) (Triple t)) new)

-- the passes over the node leave this
abbrev pub IsNodePruned : List TreeNode → ℕ → Prepared → Prepared → Type 0
IsNodePruned tree k old new = (pairs : List (Member × Member)) × ArePairsOf tree k pairs ×
    ((scene : Scene ℕ (ℕ × ℕ)) → IsSceneOf tree old scene → IsLeft scene (node_passes scene k pairs (is_left_of old)) new)

-- a round leaves this
abbrev pub IsRound : List TreeNode → Prepared → Prepared → Type 0
IsRound tree old new = (pairs : ℕ → List (Member × Member)) × ((k : ℕ) → k < length tree → ArePairsOf tree k (pairs k)) ×
    ((scene : Scene ℕ (ℕ × ℕ)) → IsSceneOf tree old scene → IsLeft scene (tree_passes scene pairs (length tree) (is_left_of old)) new)
