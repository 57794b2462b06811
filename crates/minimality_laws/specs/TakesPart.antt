-- Which triples of a family are of use: those that take part in a maximal partial solution.
use Rattle.std.specs.Prelude.{ℕ, Bool, List, Contains, IsTrue}
use Rattle.alg_model.specs.declared.pattern.TriplePat.{TriplePat}
use Rattle.alg_model.specs.Row.{Row, Extends, BindsMore}
use Rattle.alg_model.specs.Eval.{Interpretation}
use Rattle.alg_model.specs.Solution.{Makes}
use Rattle.pattern_tree.specs.Solution.{Family, IsPartialSolution, IsPartialRow}
use Rattle.pattern_tree.specs.Standing.{StandsAt}
use Rattle.pattern_tree.specs.Tree.{TreeNode}

-- the triple is one of the triple pattern's list, and a maximal partial solution, which has a node of the triple pattern,
-- makes the triple pattern this triple
pub record TakesPart {V X : Type 0} (interpretation : Interpretation V X) (n : ℕ) (tree : List TreeNode) (family : Family X) (pattern : TriplePat) (triple : X) : Type 0 where
  pub set : ℕ → Bool
  pub row : Row V
  pub node : ℕ
  pub partial : IsPartialSolution interpretation n tree family set row
  pub maximal : (other : Row V) → IsPartialRow interpretation n tree family other → Extends other row → ¬ BindsMore other row
  pub stands : StandsAt tree node pattern
  pub held : IsTrue (set node)
  pub among : Contains (family pattern) triple
  pub makes : Makes interpretation row pattern triple
