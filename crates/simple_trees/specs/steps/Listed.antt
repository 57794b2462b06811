-- Carries proofs only: three lists of some nodes, as the test for simple trees takes a tree.
use Rattle.std.specs.Prelude.{◌≡◌, ℕ, List}
use Rattle.pattern_tree.specs.Tree.{TreeNode}
use Rattle.simple_tree_laws.specs.TreeSets.{parents_of, ends_of, sets_in}

pub record AreListsOf (nodes : List TreeNode) (parents ends sets : List ℕ) : Type 0 where
  pub are_parents : parents ≡ parents_of nodes
  pub are_ends : ends ≡ ends_of nodes
  pub are_sets : sets ≡ sets_in nodes
