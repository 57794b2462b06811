use Rattle.std.proofs.Common.{◌∙◌}
use Rattle.term_numbers.proofs.EntryLaws.{entries-step, entries-end}
use Rattle.term_numbers.proofs.group.entries.Goals as goal

pub loop-place-preserved : goal.loop-place-preserved
loop-place-preserved c =
    let step = entries-step c.args.texts.now c.loop-place.place c.index-texts-place.result c.loop-place-test.true c.index-texts-place.is in
    cc (step, c.in_ok-push.ensures.items, c.of.ensures, c.in_ok-number_from.ensures, c.loop-place.invariant)

pub returns : goal.returns
returns c = c.loop-place.invariant ∙ entries-end c.args.texts.now c.loop-place.place c.loop-place-test.false
