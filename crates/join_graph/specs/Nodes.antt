-- Trees of patterns: when a tree is simple.
use Rattle.std.specs.Prelude.{ℕ, ◌<◌, List, length, slice_index, slice_range}
use Rattle.std.proofs.Common.{zero, suc}
use Rattle.join_graph.specs.Sets.{HasAtMostOne}
use Rattle.join_graph.specs.Members.{OccursIn}
use Rattle.join_graph.specs.Core.{IsForest}
use Rattle.join_graph.specs.Chains.{IsConnected}

-- where the patterns of a node begin: where those of the node before it end
abbrev pub start_of : List ℕ → ℕ → ℕ
start_of ends zero = 0
start_of ends (suc k) = slice_index ends k

-- the patterns of a node
abbrev pub node_of : List ℕ → List ℕ → ℕ → List ℕ
node_of ends sets k = slice_range sets (start_of ends k) (slice_index ends k)

-- at most one variable occurs in both lists
abbrev pub SharesAtMostOne : List ℕ → List ℕ → Type 0
SharesAtMostOne node parent = HasAtMostOne (λ v. OccursIn node v × OccursIn parent v)

-- the node is a connected forest that shares at most one variable with its parent
pub record HangsFrom (node parent : List ℕ) : Type 0 where
  pub forest : IsForest node
  pub connected : IsConnected node
  pub shared : SharesAtMostOne node parent

-- node 0 is a forest, and each other node hangs from its parent
pub record IsSimple (parents ends sets : List ℕ) : Type 0 where
  pub root : IsForest (node_of ends sets 0)
  pub others : (k : ℕ) → 0 < k → k < length ends → HangsFrom (node_of ends sets k) (node_of ends sets (slice_index parents k))

-- the parent of each node but node 0 is smaller than the node
abbrev pub ParentsComeFirst : List ℕ → Type 0
ParentsComeFirst parents = (k : ℕ) → 0 < k → k < length parents → slice_index parents k < k
