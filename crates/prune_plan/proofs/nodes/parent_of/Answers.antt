use Rattle.prune_plan.proofs.Places.{parent_before, told_parent}
use Rattle.prune_plan.proofs.nodes.parent_of.Goals as goal

pub returns-clause-parent : goal.returns-clause-parent
returns-clause-parent c = λ parent. told_parent c.args.tree.now c.args.node c.parent.result c.requires c.parent.ensures parent

pub returns-clause-before : goal.returns-clause-before
returns-clause-before c = λ parent hangs. parent_before c.args.tree.now c.nodes-nodes.ensures.pattern c.args.node parent hangs
