-- What is asked of lists of triples, so that no flat row comes twice.
use Rattle.std.specs.Prelude.{◌≡◌, ◌≢◌, ℕ, List, AllPairs, Contains}
use Rattle.alg_model.specs.declared.pattern.TriplePat.{TriplePat}
use Rattle.alg_model.specs.Row.{Row}
use Rattle.alg_model.specs.Eval.{Interpretation}
use Rattle.alg_model.specs.Solution.{Makes}
use Rattle.pattern_tree.specs.Solution.{Family}
use Rattle.pattern_tree.specs.Standing.{StandsAt}
use Rattle.pattern_tree.specs.Tree.{TreeNode}

-- no triple stands twice in the list of a triple pattern of the tree, and no row makes the triple pattern two of them
pub record HasEachOnce {V X : Type 0} (interpretation : Interpretation V X) (tree : List TreeNode) (family : Family X) : Type 0 where
  pub once : (k : ℕ) (pattern : TriplePat) → StandsAt tree k pattern → AllPairs (λ t u. t ≢ u) (family pattern)
  pub one : (k : ℕ) (pattern : TriplePat) (t u : X) (row : Row V) → StandsAt tree k pattern → Contains (family pattern) t → Contains (family pattern) u →
      Makes interpretation row pattern t → Makes interpretation row pattern u → t ≡ u
