use Rattle.std.proofs.Common.{sym, ◌∙◌}
use Rattle.match_relations.proofs.NumberLaws.{number_in_node, number_past_node}
use Rattle.match_relations.proofs.numbered.numbered.Goals as goal

pub returns-in-Some : goal.returns-in-Some
returns-in-Some c = sym (number_in_node c.args.number c.args.tree.now c.loop-node.node c.patterns.result _ c.patterns.ensures (sym c.in-Some.ensures)) ∙ c.loop-node.invariant

pub loop-node-preserved : goal.loop-node-preserved
loop-node-preserved c = number_past_node c.args.number c.args.tree.now c.loop-node.node c.patterns.result c.patterns.ensures (sym c.in-None.ensures) ∙ c.loop-node.invariant
