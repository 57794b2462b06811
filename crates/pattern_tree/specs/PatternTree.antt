-- Which lists of nodes are trees: those of well-designed patterns that keep the limits.
use Rattle.std.specs.Prelude.{◌≡◌, List}
use Rattle.alg_model.specs.Limits.{max_variables, PatternKeepsLimits}
use Rattle.alg_model.specs.Pattern.{Algebra}
use Rattle.alg_model.specs.WellDesigned.{IsWellDesigned}
use Rattle.pattern_tree.specs.Tree.{TreeNode, tree_of}

pub record IsPatternTree (tree : List TreeNode) : Type 0 where
  pub pattern : Algebra
  pub is : tree ≡ tree_of pattern
  pub well_designed : IsWellDesigned pattern
  pub keeps_limits : PatternKeepsLimits max_variables pattern
