-- What the steps of the engine hand on: names of all matches, what pruning leaves of them, its flat rows, and the best
-- of these.
use Rattle.std.specs.Prelude.{◌↔◌, ℕ, List, Contains}
use Rattle.alg_model.specs.declared.pattern.TriplePat.{TriplePat}
use Rattle.alg_model.specs.Eval.{Interpretation}
use Rattle.alg_model.specs.Row.{Row}
use Rattle.multiway_join.specs.FlatRows.{flat_rows_of}
use Rattle.multiway_join.specs.JoinOrder.{IsJoinOrder}
use Rattle.naming_laws.specs.Naming.{IsNaming, TellsApart, named_family}
use Rattle.pattern_tree.specs.BestRows.{AreBest}
use Rattle.pattern_tree.specs.Consistent.{IsGreatestConsistent}
use Rattle.pattern_tree.specs.Solution.{Family, all_matches}
use Rattle.pattern_tree.specs.Standing.{StandsAt}
use Rattle.pattern_tree.specs.Tree.{TreeNode}

-- the family lists, by their names, just the matches of each triple pattern of the tree, and the names of a variable are
-- told apart
pub record NamesMatches {W Y V X : Type 0} (names : Interpretation W Y) (interpretation : Interpretation V X) (value : W → V) (triple : Y → X) (n : ℕ) (tree : List TreeNode) (triples : List X) (family : Family Y) : Type 0 where
  pub naming : IsNaming names interpretation value triple
  pub apart : TellsApart names value tree family
  pub matches : (k : ℕ) (pattern : TriplePat) (match : X) → StandsAt tree k pattern →
      Contains (named_family triple family pattern) match ↔ Contains (all_matches interpretation n triples pattern) match

-- the rows are the flat rows of a family, in the join order for some lengths of lists: in any order, and as often as may be
pub record AreFlat {W Y : Type 0} (names : Interpretation W Y) (n : ℕ) (tree : List TreeNode) (family : Family Y) (rows : List (Row W)) : Type 0 where
  pub counts : TriplePat → ℕ
  pub ordered : List TreeNode
  pub order : IsJoinOrder counts tree ordered
  pub same : (row : Row W) → Contains rows row ↔ Contains (flat_rows_of names n family ordered) row

-- the rows are the best of the flat rows over what pruning leaves of a family
pub record AreBestLeft {W Y : Type 0} (names : Interpretation W Y) (n : ℕ) (tree : List TreeNode) (family : Family Y) (best : List (Row W)) : Type 0 where
  pub left : Family Y
  pub rows : List (Row W)
  pub greatest : IsGreatestConsistent names tree family left
  pub flat : AreFlat names n tree left rows
  pub chosen : AreBest rows best
