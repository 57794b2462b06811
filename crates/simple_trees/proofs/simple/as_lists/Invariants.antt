use Rattle.std.proofs.Common.{take}
use Rattle.simple_trees.specs.steps.Listed.{AreListsOf}
use Rattle.simple_trees.proofs.simple.as_lists.Given as goal

abbrev pub invariant-loop-node : goal.invariant-loop-node
invariant-loop-node l = AreListsOf (take l.node l.tree) l.lists.parents.items l.lists.ends.items l.lists.sets.items
