-- Carries proofs only: the flat rows as rows of cells, where the set of the matched nodes is a word.
use Rattle.std.specs.Prelude.{◌≡◌, ℕ, zero, suc, ◌^◌, ◌==◌, ◌<◌, Bool, true, false, if◌then◌else◌, List, [], ◌∷◌, ◌++◌, map, replicate, All, Option, Some, None, IfSome}
use Rattle.std.specs.List.{flat_map}
use Rattle.std.specs.Int.{bit_at}
use Rattle.std.specs.Int.Bits.{bit_or}
use Rattle.alg_model.specs.declared.pattern.TriplePat.{TriplePat}
use Rattle.pattern_tree.specs.FlatTable.{FlatTable, row_of}
use Rattle.pattern_tree.specs.Tree.{TreeNode}
use Rattle.tree_relations.specs.declared.prepared.Prepared.{Prepared}
use Rattle.multiway_join.specs.declared.order.JoinPattern.{JoinPattern}
use Rattle.multiway_join.specs.declared.order.JoinNode.{JoinNode}
use Rattle.multiway_join.specs.steps.Binding.{continued_row, CanJoin}

-- the triple patterns of a list of the code, and a node of the code as one of a tree
abbrev pub patterns_in : List JoinPattern → List TriplePat
patterns_in patterns = map (λ p. p.pattern.now) patterns

abbrev pub as_node : JoinNode → TreeNode
as_node node = record { parent = node.parent; patterns = patterns_in node.patterns.items }

-- the parent is there, and its bit is set
abbrev pub holds_parent : ℕ → Option ℕ → Bool
holds_parent matched None = false
holds_parent matched (Some parent) = bit_at matched parent == 1

-- what the rows give, or what is given where there is none
abbrev pub each_or : List (List ℕ) → (List ℕ → List (List ℕ)) → List (List ℕ) → List (List ℕ)
each_or dead live [] = dead
each_or dead live (row ∷ rows) = flat_map live (row ∷ rows)

module _ (prepared : Prepared) where
  -- the rows of some triple patterns of a node for a row: where all of them continue it, what `live` gives for the longer
  -- row, and at a dead end `dead`
  abbrev pub through : List (List ℕ) → (List ℕ → List (List ℕ)) → List TriplePat → List ℕ → List (List ℕ)
  through dead live [] row = live row
  through dead live (pattern ∷ patterns) row = each_or dead (through dead live patterns) (continued_row prepared pattern row)

  -- the rows of the nodes from number k on
  abbrev pub cells_from : List TreeNode → ℕ → ℕ → List ℕ → List (List ℕ)
  cells_from [] k matched row = row ∷ []
  cells_from (node ∷ nodes) k matched row =
      if holds_parent matched node.parent
      then through (cells_from nodes (suc k) matched row) (cells_from nodes (suc k) (bit_or matched (2 ^ k))) node.patterns row
      else cells_from nodes (suc k) matched row

  -- those of a dead end at node k, where the nodes behind it are given: none at the root
  abbrev pub cells_dead : List TreeNode → ℕ → ℕ → List ℕ → List (List ℕ)
  cells_dead nodes zero matched entry = []
  cells_dead nodes (suc k) matched entry = cells_from nodes (suc (suc k)) matched entry

  -- those of some triple patterns of node k
  abbrev pub cells_within : List TriplePat → List TreeNode → ℕ → ℕ → List ℕ → List ℕ → List (List ℕ)
  cells_within patterns nodes k matched entry row = through (cells_dead nodes k matched entry) (cells_from nodes (suc k) (bit_or matched (2 ^ k))) patterns row

-- those of all nodes, for rows of n cells
abbrev pub flat_cells : Prepared → List TreeNode → ℕ → List (List ℕ)
flat_cells prepared [] n = []
flat_cells prepared (root ∷ nodes) n = cells_within prepared root.patterns nodes 0 0 (replicate n 0) (replicate n 0)

-- the nodes can be joined: all their triple patterns can, and their parents have bits
pub record CanJoinNode (prepared : Prepared) (width : ℕ) (node : TreeNode) : Type 0 where
  pub parent : IfSome node.parent (λ parent. parent < 64)
  pub patterns : All (CanJoin prepared width) node.patterns

-- the rows are put behind the others
pub record Lists (more : List (List ℕ)) (old new : FlatTable) : Type 0 where
  pub vars : new.vars ≡ old.vars
  pub rows : new.rows ≡ old.rows ++ map row_of more

-- so are those of a row, if there is one, and whether there is one is told
abbrev pub ListsPair : (List ℕ → List (List ℕ)) → Option (List ℕ) → Bool → FlatTable → FlatTable → Type 0
ListsPair live None any old new = (any ≡ false) × Lists [] old new
ListsPair live (Some row) any old new = (any ≡ true) × Lists (live row) old new

-- so are those of each row of a list
abbrev pub ListsAll : (List ℕ → List (List ℕ)) → List (List ℕ) → Bool → FlatTable → FlatTable → Type 0
ListsAll live [] any old new = (any ≡ false) × Lists [] old new
ListsAll live (row ∷ rows) any old new = (any ≡ true) × Lists (flat_map live (row ∷ rows)) old new
