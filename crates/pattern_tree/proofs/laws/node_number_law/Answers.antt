use Rattle.pattern_tree.proofs.NodeNumbers.{tree-optionals, optionals-parts}
use Rattle.pattern_tree.proofs.laws.node_number_law.Goals as goal

pub returns-clause-nodes : goal.returns-clause-nodes
returns-clause-nodes c = tree-optionals

pub returns-clause-optionals : goal.returns-clause-optionals
returns-clause-optionals c = optionals-parts
