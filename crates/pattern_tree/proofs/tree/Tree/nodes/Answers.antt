use Rattle.std.proofs.Common.{arith}
use Rattle.pattern_tree.proofs.TreeSizes.{few_nodes}
use Rattle.pattern_tree.proofs.tree.Tree.nodes.Goals as goal

pub overflow_cast-result : goal.overflow_cast-result
overflow_cast-result c = let few = few_nodes c.self.inside.nodes.items c.self.invariant in omega (arith, c.len.ensures)
