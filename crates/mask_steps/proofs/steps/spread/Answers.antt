use Rattle.std.proofs.Common.{sym, ◌∙◌, true}
use Rattle.pattern_rel.specs.Folds.{is_kept}
use Rattle.mask_pool.specs.Region.{words_of}
use Rattle.mask_steps.proofs.PlaceLaws.{can_fold}
use Rattle.mask_steps.proofs.HeldLaws.{taken_at}
use Rattle.mask_steps.proofs.StepLaws.{spread_left, spread_order, all_given}
use Rattle.mask_steps.proofs.OwnLaws.{sides_apart, others_stay, own_layout, own_narrows, own_values, in_itself}
use Rattle.mask_steps.proofs.steps.spread.Goals as goal

pub unfold-requires : goal.unfold-requires
unfold-requires c = can_fold c.args.prepared.now c.requires.fits c.args.i c.args.var.0 c.get-entry.result.now c.get-by.result c.get-entry.ensures c.get-by.ensures

pub returns-in-Some-clause-left : goal.returns-in-Some-clause-left
returns-in-Some-clause-left c =
    let taken = taken_at c.args.prepared.now c.args.i c.args.var.0 c.get-entry.result.now c.side_of-side.result.0 c.side_of-side.result.1 c.requires.fits c.requires.there c.get-entry.ensures c.side_of-side.ensures in
    let apart = sides_apart c.args.prepared.now c.requires.fits c.args.i c.get-entry.result.now c.get-entry.ensures in
    spread_left c.args.prepared.now c.args.i c.args.var.0 c.get-entry.result.now c.side_of-side.result.0 c.side_of-side.result.1 c.get-entry.ensures taken
    c.get-by.result c.get-by.ensures c.unfold.new.pool c.args.kinds.now c.in-Some.held c.cut_between-cut.result (sym c.kind.ensures ∙ c.in-Some.is) c.cut_between-cut.ensures (c.unfold.ensures.pairs apart)

pub returns-in-Some-clause-in_order : goal.returns-in-Some-clause-in_order
returns-in-Some-clause-in_order c =
    let apart = sides_apart c.args.prepared.now c.requires.fits c.args.i c.get-entry.result.now c.get-entry.ensures in (
      is_kept c.side_of-side.result.0 (words_of c.args.prepared.now.pool c.get-by.result) c.cut_between-cut.result,
      spread_order c.args.prepared.now c.args.i c.get-entry.result.now c.get-entry.ensures c.unfold.new.pool _ (c.unfold.ensures.pairs apart),
    )

pub returns-in-Some-clause-others : goal.returns-in-Some-clause-others
returns-in-Some-clause-others c = others_stay c.args.prepared.now c.requires.fits c.args.i c.get-entry.result.now c.get-entry.ensures c.side_of-side.result.0 c.unfold.new.pool c.unfold.ensures.keeps

pub returns-in-Some-clause-values : goal.returns-in-Some-clause-values
returns-in-Some-clause-values c = own_values c.args.prepared.now c.requires.fits c.args.i c.get-entry.result.now c.get-entry.ensures c.side_of-side.result.0 c.unfold.new.pool c.unfold.ensures.keeps c.args.kinds.now

pub returns-in-Some-clause-narrows : goal.returns-in-Some-clause-narrows
returns-in-Some-clause-narrows c = own_narrows c.args.prepared.now c.requires.fits c.args.i c.get-entry.result.now c.get-entry.ensures c.side_of-side.result.0 c.unfold.new.pool c.unfold.ensures.keeps (λ n has. ((c.unfold.ensures.kept n).0 has).0)

pub returns-in-Some-clause-layout : goal.returns-in-Some-clause-layout
returns-in-Some-clause-layout c = own_layout c.args.prepared.now c.requires.fits c.args.i c.get-entry.result.now c.get-entry.ensures c.side_of-side.result.0 c.unfold.new.pool c.unfold.ensures.keeps

pub returns-in_default-clause-left : goal.returns-in_default-clause-left
returns-in_default-clause-left c =
    let taken = taken_at c.args.prepared.now c.args.i c.args.var.0 c.get-entry.result.now c.side_of-side.result.0 c.side_of-side.result.1 c.requires.fits c.requires.there c.get-entry.ensures c.side_of-side.ensures in
    all_given c.args.prepared.now c.args.i c.args.var.0 c.get-entry.result.now c.side_of-side.result.0 c.side_of-side.result.1 c.get-entry.ensures taken c.args.kinds.now (sym c.kind.ensures ∙ c.in_default.is)

pub returns-in_default-clause-in_order : goal.returns-in_default-clause-in_order
returns-in_default-clause-in_order c = ((λ t. true), in_itself _)
