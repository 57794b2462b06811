use Rattle.std.proofs.Common.{get_or, Contains, subst}
use Rattle.std.proofs.lemmas.List.Elements.{Contains-get_or}
use Rattle.node_plans.proofs.Limits.{placed_stands, node_there, patterns_there}
use Rattle.prune_plan.proofs.nodes.patterns_of.Goals as goal

pub returns-clause-placed : goal.returns-clause-placed
returns-clause-placed c = λ k d low.
    let tree = c.args.tree.now in
    let patterns = c.patterns.result in
    let there = node_there tree c.args.node c.requires in
    let are = patterns_there tree c.args.node patterns there.0 c.patterns.ensures there.1 in
    placed_stands tree c.nodes-nodes.ensures.pattern c.args.node (get_or patterns k d)
    (record { node = there.0; stands = there.1; among = subst (λ list. Contains list (get_or patterns k d)) are (Contains-get_or patterns k d low) })
