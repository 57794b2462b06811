-- The flat rows of a tree, after Atre: one join through all its triple patterns, in the order in which they stand there,
-- with nullification where a node that is not the root fails.
use Rattle.std.specs.Prelude.{ℕ, suc, Bool, false, if◌then◌else◌, ◌||◌, ◌==◌, List, [], ◌∷◌, Option, Some, None}
use Rattle.std.specs.List.{flat_map, filter_map}
use Rattle.alg_model.specs.declared.pattern.TriplePat.{TriplePat}
use Rattle.alg_model.specs.Row.{Row, unbound, merged}
use Rattle.alg_model.specs.Eval.{Interpretation, matches_of}
use Rattle.pattern_tree.specs.Solution.{Family}
use Rattle.pattern_tree.specs.Tree.{TreeNode}

-- a list, or a dead end as its one item
abbrev pub or_dead_end : {Y : Type 0} → List (Option Y) → List (Option Y)
or_dead_end [] = None ∷ []
or_dead_end (end ∷ ends) = end ∷ ends

-- a set of nodes, and one node more
abbrev pub with_node : (ℕ → Bool) → ℕ → ℕ → Bool
with_node set k j = (j == k) || set j

-- the parent is there, and in the set
abbrev pub has_parent : (ℕ → Bool) → Option ℕ → Bool
has_parent set None = false
has_parent set (Some parent) = set parent

module _ {V X : Type 0} (interpretation : Interpretation V X) (n : ℕ) (family : Family X) where
  -- the rows by which the triples of its list continue a row: the merges with those matches that agree with it
  abbrev pub continued : TriplePat → Row V → List (Row V)
  continued pattern row = filter_map (merged interpretation.same row) (matches_of interpretation n pattern (family pattern))

  -- the ends that a row comes to at some triple patterns: the rows by which all of them, one after another, continue it,
  -- and a dead end for each row on the way that no triple of the next one's list continues
  abbrev pub ends : List TriplePat → Row V → List (Option (Row V))
  ends [] row = Some row ∷ []
  ends (pattern ∷ patterns) row = or_dead_end (flat_map (ends patterns) (continued pattern row))

  -- The rows of the nodes from number k on, for a row and the set of the nodes that it has matched. A node is tried where
  -- its parent is matched. At an end that is a row, the node is matched. At a dead end it is not, nor is any node below
  -- it, and what its triple patterns have bound is unbound again.
  abbrev pub rows_from : List TreeNode → ℕ → (ℕ → Bool) → Row V → List (Row V)
  rows_from [] k matched row = row ∷ []
  rows_from (node ∷ nodes) k matched row =
      if has_parent matched node.parent
      then flat_map (λ end. elim end as (λ _. List (Row V)) [
        | Some longer ↦ rows_from nodes (suc k) (with_node matched k) longer
        | None ↦ rows_from nodes (suc k) matched row
      ]) (ends node.patterns row)
      else rows_from nodes (suc k) matched row

  -- the flat rows: a row that comes to a dead end at the root is dropped
  abbrev pub flat_rows_of : List TreeNode → List (Row V)
  flat_rows_of [] = []
  flat_rows_of (root ∷ nodes) = flat_map (λ end. elim end as (λ _. List (Row V)) [
    | Some row ↦ rows_from nodes 1 (λ k. k == 0) row
    | None ↦ []
  ]) (ends root.patterns (unbound V n))
