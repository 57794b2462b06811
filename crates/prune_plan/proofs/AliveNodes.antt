-- When a node is alive, by its own triple patterns and its parent.
use Rattle.std.proofs.Common.{ℕ, List, subst}
use Rattle.pattern_tree.specs.Standing.{IsWithin, itself, below}
use Rattle.pattern_tree.specs.Tree.{TreeNode}
use Rattle.tree_relations.specs.declared.prepared.Prepared.{Prepared}
use Rattle.prune_plan.specs.steps.Nodes.{IsParent, IsNodeFilled, IsAlive}
use Rattle.prune_plan.proofs.Places.{one_parent}

module _ (tree : List TreeNode) (p : Prepared) (k : ℕ) where
  pub alive_below : (parent : ℕ) → IsParent tree k parent → IsNodeFilled tree p k → IsAlive tree p parent → IsAlive tree p k
  alive_below parent hangs filled alive top itself = filled
  alive_below parent hangs filled alive top (below {parent = other} node is has rest) =
      alive top (subst (IsWithin tree top) (one_parent tree k other parent (node, is, has) hangs) rest)

  pub alive_root : ((parent : ℕ) → IsParent tree k parent → ⊥) → IsNodeFilled tree p k → IsAlive tree p k
  alive_root root filled top itself = filled
  alive_root root filled top (below {parent = other} node is has rest) = absurd (root other (node, is, has))

  pub alive_above : (parent : ℕ) → IsParent tree k parent → IsAlive tree p k → IsAlive tree p parent
  alive_above parent hangs alive top within = alive top (below hangs.0 hangs.1 hangs.2 within)

  pub alive_filled : IsAlive tree p k → IsNodeFilled tree p k
  alive_filled alive = alive k itself
