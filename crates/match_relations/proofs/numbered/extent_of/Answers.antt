use Rattle.std.proofs.Common.{◌∙◌}
use Rattle.match_relations.proofs.NumberLaws.{widened_node}
use Rattle.match_relations.proofs.numbered.extent_of.Goals as goal

pub loop-node-preserved : goal.loop-node-preserved
loop-node-preserved c = widened_node c.args.tree.now c.loop-node.node c.patterns.result c.loop-node.wide c.widened_by-wide.result c.patterns.ensures c.widened_by-wide.ensures ∙ c.loop-node.invariant
