-- The report of a query over a graph of texts: whether its tree is simple, how many triples match each triple pattern, how
-- many of these pruning leaves, how many flat rows the join lists, and how many of them are best.
use Rattle.std.specs.Prelude.{◌≡◌, ◌≢◌, ◌↔◌, ℕ, Bool, List, length, AllPairs, Some, IsTrue, slice_get}
use Rattle.bm_term.specs.declared.triple.Triple.{Triple}
use Rattle.alg_model.specs.declared.pattern.TriplePat.{TriplePat}
use Rattle.alg_model.specs.Eval.{as_terms}
use Rattle.alg_model.specs.Pattern.{Algebra, triple_patterns}
use Rattle.alg_model.specs.Row.{Row}
use Rattle.minimality_laws.specs.SimpleTree.{AreForests, SharesOne}
use Rattle.multiway_join.specs.FlatRows.{flat_rows_of}
use Rattle.multiway_join.specs.JoinOrder.{IsJoinOrder}
use Rattle.pattern_tree.specs.BestRows.{AreBest}
use Rattle.pattern_tree.specs.Consistent.{IsGreatestConsistent}
use Rattle.pattern_tree.specs.Solution.{Family, all_matches}
use Rattle.pattern_tree.specs.Standing.{StandsAt}
use Rattle.pattern_tree.specs.Tree.{TreeNode, tree_of}
use Rattle.pruning_laws.specs.Shown.{entry_of}
use Rattle.simple_tree_laws.specs.TreeSets.{AreConnected}

-- a simple tree: each node is a forest, each but the root is connected, and each shares at most one variable with its parent
abbrev pub IsSimpleTree : List TreeNode → Type 0
IsSimpleTree tree = AreForests tree × AreConnected tree × SharesOne tree

-- the lengths of the lists of a family, one for each triple pattern, in the order of the text
pub record AreLengths {X : Type 0} (pattern : Algebra) (family : Family X) (lengths : List ℕ) : Type 0 where
  pub long : length lengths ≡ length (triple_patterns pattern)
  pub each : (k : ℕ) (part : TriplePat) → StandsAt (tree_of pattern) k part → slice_get lengths (entry_of part) ≡ Some (length (family part))

-- The lengths before are those of the lists of all matches. Those after are of the greatest consistent family within, where
-- no triple stands twice in a list. The rows that are listed are its flat rows in the join order for these lengths, and
-- those that are kept the best of them.
pub record IsReport (n : ℕ) (pattern : Algebra) (graph : List Triple) (simple : Bool) (before after : List ℕ) (listed kept : ℕ) : Type 0 where
  pub shape : IsTrue simple ↔ IsSimpleTree (tree_of pattern)
  pub matched : AreLengths pattern (all_matches as_terms n graph) before
  pub left : Family Triple
  pub greatest : IsGreatestConsistent as_terms (tree_of pattern) (all_matches as_terms n graph) left
  pub once : (k : ℕ) (part : TriplePat) → StandsAt (tree_of pattern) k part → AllPairs (λ t u. t ≢ u) (left part)
  pub pruned : AreLengths pattern left after
  pub ordered : List TreeNode
  pub order : IsJoinOrder (λ part. length (left part)) (tree_of pattern) ordered
  pub flat : listed ≡ length (flat_rows_of as_terms n left ordered)
  pub best : List (Row (List ℕ))
  pub chosen : AreBest (flat_rows_of as_terms n left ordered) best
  pub counted : kept ≡ length best
