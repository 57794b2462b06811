use Rattle.std.proofs.Common.{◌≡◌, ◌<◌, length, subst, arith}
use Rattle.prune_plan.proofs.Layouts.{tree_fits}
use Rattle.prune_plan.proofs.Levels.{level_more}
use Rattle.prune_plan.proofs.Places.{parent_before}
use Rattle.prune_plan.proofs.Pruned.{IsRoundBelow, round_none, round_node}
use Rattle.prune_plan.proofs.rounds.take_round.Goals as goal

pub loop-node-init : goal.loop-node-init
loop-node-init c = (round_none c.args.tree.now c.args.prepared.now c.requires.fits, λ once j low. absurd (omega (arith, low)))

pub prune_node-requires-clause-fits : goal.prune_node-requires-clause-fits
prune_node-requires-clause-fits c = tree_fits c.args.tree.now c.args.prepared.now c.loop-node.prepared c.loop-node.invariant.0.layout c.requires.fits

pub prune_node-requires-clause-level : goal.prune_node-requires-clause-level
prune_node-requires-clause-level c = λ once parent hangs. c.loop-node.invariant.1 once parent (parent_before c.args.tree.now c.nodes-node-end.ensures.pattern c.loop-node.node parent hangs)

pub loop-node-preserved : goal.loop-node-preserved
loop-node-preserved c =
    let tree = c.args.tree.now in
    let mid = c.loop-node.prepared in
    let new = c.prune_node.new.prepared in
    let k = c.loop-node.node in
    let low : k < length tree = omega arith in (
      round_node tree c.args.prepared.now mid new k low c.loop-node.invariant.0 c.prune_node.ensures.pruned c.prune_node.ensures.in_order c.prune_node.ensures.narrows c.prune_node.ensures.layout,
      λ once. level_more tree mid new k (c.requires.forests once k low) (tree_fits tree c.args.prepared.now mid c.loop-node.invariant.0.layout c.requires.fits) c.requires.accepted c.prune_node.ensures.pruned
          c.prune_node.ensures.layout (c.loop-node.invariant.1 once),
    )

pub returns-clause-round : goal.returns-clause-round
returns-clause-round c =
    let tree = c.args.tree.now in
    let past : c.loop-node.node ≡ length tree = omega arith in
    let all = subst (λ k. IsRoundBelow tree c.args.prepared.now k c.loop-node.prepared) past c.loop-node.invariant.0 in
    (all.pairs, all.each, all.left)
