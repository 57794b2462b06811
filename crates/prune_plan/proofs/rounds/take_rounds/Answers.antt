use Rattle.std.proofs.Common.{◌≡◌, sym, ◌∙◌}
use Rattle.prune_plan.proofs.TreePruned.{pruned_left}
use Rattle.mask_steps.specs.Measure.{mask_bits}
use Rattle.prune_plan.proofs.Layouts.{tree_fits}
use Rattle.prune_plan.proofs.Pruned.{reached_first, reached_more}
use Rattle.prune_plan.proofs.rounds.take_rounds.Goals as goal

pub loop-before-init : goal.loop-before-init
loop-before-init c = (c.bits-before.ensures, reached_first c.args.tree.now c.args.prepared.now c.requires.fits)

pub take_round-requires-clause-fits : goal.take_round-requires-clause-fits
take_round-requires-clause-fits c = tree_fits c.args.tree.now c.args.prepared.now c.loop-before.prepared c.loop-before.invariant.1.layout c.requires.fits

pub loop-before-preserved : goal.loop-before-preserved
loop-before-preserved c = (
  c.bits-after.ensures,
  reached_more c.args.tree.now c.args.prepared.now c.loop-before.prepared c.take_round.new.prepared c.loop-before.invariant.1 c.take_round.ensures.round c.take_round.ensures.in_order c.take_round.ensures.layout,
)

pub returns-then-after-before-clause-left : goal.returns-then-after-before-clause-left
returns-then-after-before-clause-left c =
    let same : mask_bits c.take_round.new.prepared ≡ mask_bits c.loop-before.prepared = sym c.bits-after.ensures ∙ c.if-after-before.true ∙ c.loop-before.invariant.0 in
    pruned_left c.args.tree.now c.args.prepared.now c.loop-before.prepared c.take_round.new.prepared c.requires.fits c.requires.accepted c.loop-before.invariant.1 c.take_round.ensures.round c.take_round.ensures.in_order
    c.take_round.ensures.layout (c.take_round.ensures.narrows.same same)
