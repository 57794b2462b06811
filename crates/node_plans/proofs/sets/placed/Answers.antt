use Rattle.std.proofs.Common.{◌≤◌, length, get_or, Contains, sym, subst}
use Rattle.std.proofs.lemmas.List.Elements.{Contains-get_or}
use Rattle.node_plans.proofs.Limits.{placed_stands, few_patterns, node_there, patterns_there}
use Rattle.node_plans.proofs.sets.placed.Goals as goal

pub returns-clause-placed : goal.returns-clause-placed
returns-clause-placed c = λ k d low.
    let tree = c.args.tree.now in
    let patterns = c.patterns.result in
    let there = node_there tree c.args.node c.requires in
    let are = patterns_there tree c.args.node patterns there.0 c.patterns.ensures there.1 in
    placed_stands tree c.nodes-nodes.ensures.pattern c.args.node (get_or patterns k d)
    (record { node = there.0; stands = there.1; among = subst (λ list. Contains list (get_or patterns k d)) are (Contains-get_or patterns k d low) })

pub returns-clause-few : goal.returns-clause-few
returns-clause-few c =
    let tree = c.args.tree.now in
    let there = node_there tree c.args.node c.requires in
    let are = patterns_there tree c.args.node c.patterns.result there.0 c.patterns.ensures there.1 in
    subst (λ list. length list ≤ 256) (sym are) (few_patterns tree c.nodes-nodes.ensures.pattern c.args.node there.0 there.1)
