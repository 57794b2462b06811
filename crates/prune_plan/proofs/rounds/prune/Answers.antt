use Rattle.prune_plan.proofs.Layouts.{tree_fits}
use Rattle.prune_plan.proofs.TreePruned.{pruned_forest}
use Rattle.prune_plan.proofs.rounds.prune.Goals as goal

pub returns-then-all_forests-clause-fits : goal.returns-then-all_forests-clause-fits
returns-then-all_forests-clause-fits c = tree_fits c.args.tree.now c.args.prepared.now c.take_round.new.prepared c.take_round.ensures.layout c.requires.fits

pub returns-then-all_forests-clause-left : goal.returns-then-all_forests-clause-left
returns-then-all_forests-clause-left c =
    pruned_forest c.args.tree.now c.args.prepared.now c.take_round.new.prepared c.requires.fits c.requires.accepted c.take_round.ensures.round c.take_round.ensures.in_order (c.all_forests.ensures.0 c.if-all_forests.true)

pub returns-else-all_forests-clause-fits : goal.returns-else-all_forests-clause-fits
returns-else-all_forests-clause-fits c = tree_fits c.args.tree.now c.args.prepared.now c.take_rounds.new.prepared c.take_rounds.ensures.layout c.requires.fits
