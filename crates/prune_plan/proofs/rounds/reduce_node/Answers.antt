use Rattle.prune_plan.proofs.Layouts.{in_order_same, in_order_then, tree_fits}
use Rattle.join_graph.specs.declared.steps.Step.TheVariants.{Pattern}
use Rattle.pruning_laws.specs.TreePasses.{Triple}
use Rattle.prune_plan.proofs.NodeReduced.{pair_sides, node_reduced}
use Rattle.prune_plan.proofs.rounds.reduce_node.Goals as goal

pub take_passes-requires-clause-sides : goal.take_passes-requires-clause-sides
take_passes-requires-clause-sides c = λ m n at.
    let tree = c.args.tree.now in
    let old = c.args.prepared.now in
    let fits = tree_fits tree old c.first_values-kinds.new.prepared c.first_values-kinds.ensures.layout c.requires.fits in
    pair_sides tree c.first_values-kinds.new.prepared fits c.requires.accepted c.args.node m n (c.node_pairs-pairs.ensures.each m n at) (c.node_pairs-pairs.ensures.limits m n at)

pub returns-clause-reduced : goal.returns-clause-reduced
returns-clause-reduced c =
    let tree = c.args.tree.now in
    let pairs = c.node_pairs-pairs.result in (
      pairs,
      record { plan = c.node_pairs-pairs.ensures.plan; forest = c.node_pairs-pairs.ensures.forest; each = c.node_pairs-pairs.ensures.each },
      λ scene is. node_reduced tree c.args.prepared.now scene is c.args.node pairs c.node_pairs-pairs.ensures.each c.requires.node c.first_values-kinds.new.prepared c.take_passes.new.prepared c.first_values-kinds.result c.take_passes.new.kinds
          c.first_values-kinds.ensures.layout c.first_values-kinds.ensures.lists (c.first_values-kinds.ensures.values scene is) (λ i pair. c.take_passes.ensures.held (Pattern i) (Triple pair) tt),
    )

pub returns-clause-in_order : goal.returns-clause-in_order
returns-clause-in_order c =
    in_order_then c.args.prepared.now c.first_values-kinds.new.prepared c.take_passes.new.prepared (in_order_same c.args.prepared.now c.first_values-kinds.new.prepared c.first_values-kinds.ensures.lists) c.take_passes.ensures.in_order
