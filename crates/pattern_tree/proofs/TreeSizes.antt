-- A tree has at most 64 nodes.
use Rattle.std.proofs.Common.{◌≤◌, List, length, ap, arith}
use Rattle.std.proofs.Math.Bridge.{le_prop}
use Rattle.std.proofs.Math.Logic.{∥∥₁_elim}
use Rattle.pattern_tree.specs.PatternTree.{IsPatternTree}
use Rattle.pattern_tree.specs.Tree.{TreeNode}
use Rattle.pattern_tree.proofs.Growth.{length-tree}

pub few_nodes : (tree : List TreeNode) → ∥ IsPatternTree tree ∥₁ → length tree ≤ 64
few_nodes tree is = ∥∥₁_elim is le_prop (λ is. let few = is.keeps_limits.few_optional in omega (arith, ap length is.is, length-tree is.pattern))
