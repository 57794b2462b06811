use Rattle.std.proofs.Common.{sym, ◌∙◌}
use Rattle.join_graph.specs.declared.steps.Step.TheVariants.{Pattern}
use Rattle.pruning_laws.specs.TreePasses.{Triple, at_end}
use Rattle.prune_plan.specs.steps.Members.{is_left_of}
use Rattle.prune_plan.proofs.Emptying.{alive_stays, dead_emptied}
use Rattle.prune_plan.proofs.Layouts.{in_order_then, tree_fits}
use Rattle.prune_plan.proofs.rounds.prune_node.Goals as goal

pub is_alive-requires-clause-fits : goal.is_alive-requires-clause-fits
is_alive-requires-clause-fits c = tree_fits c.args.tree.now c.args.prepared.now c.reduce_node.new.prepared c.reduce_node.ensures.layout c.requires.fits

pub empty_node-requires-clause-fits : goal.empty_node-requires-clause-fits
empty_node-requires-clause-fits c = tree_fits c.args.tree.now c.args.prepared.now c.reduce_node.new.prepared c.reduce_node.ensures.layout c.requires.fits

pub returns-then-not-is_alive-clause-pruned : goal.returns-then-not-is_alive-clause-pruned
returns-then-not-is_alive-clause-pruned c =
    let tree = c.args.tree.now in
    let old = c.args.prepared.now in
    let k = c.args.node in
    let reduced = c.reduce_node.ensures.reduced in (
      reduced.0,
      reduced.1,
      λ scene is. dead_emptied tree old scene is k c.requires.node (λ i t. at_end scene k reduced.0 (is_left_of old) (Pattern i) (Triple t)) c.reduce_node.new.prepared (reduced.2 scene is) c.empty_node.new.prepared
          (λ alive. (let yes = sym c.if-not-is_alive.true ∙ c.is_alive.ensures.1 alive in cc)) c.empty_node.ensures.none c.empty_node.ensures.others,
    )

pub returns-then-not-is_alive-clause-in_order : goal.returns-then-not-is_alive-clause-in_order
returns-then-not-is_alive-clause-in_order c =
    in_order_then c.args.prepared.now c.reduce_node.new.prepared c.empty_node.new.prepared c.reduce_node.ensures.in_order c.empty_node.ensures.in_order

pub returns-else-not-is_alive-clause-pruned : goal.returns-else-not-is_alive-clause-pruned
returns-else-not-is_alive-clause-pruned c =
    let tree = c.args.tree.now in
    let old = c.args.prepared.now in
    let k = c.args.node in
    let reduced = c.reduce_node.ensures.reduced in (
      reduced.0,
      reduced.1,
      λ scene is. alive_stays tree old scene is k c.requires.node (λ i t. at_end scene k reduced.0 (is_left_of old) (Pattern i) (Triple t)) c.reduce_node.new.prepared (reduced.2 scene is)
          (c.is_alive.ensures.0 c.if-not-is_alive.false),
    )
