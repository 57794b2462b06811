use Rattle.std.proofs.Common.{subst, arith}
use Rattle.std.proofs.lemmas.Option.{slice_get-get_or}
use Rattle.term_numbers.specs.held.Entries.{AreSplit}
use Rattle.term_numbers.proofs.EntryLaws.{AreSplit-step, entries-end}
use Rattle.term_numbers.proofs.group.split.Goals as goal

pub loop-place-preserved : goal.loop-place-preserved
loop-place-preserved c = AreSplit-step c.args.roles.now c.args.nodes.now c.loop-place.place c.index-nodes-place.result c.of.result c.in_ok-number_from.field-0 _ _ _ _ _ _ _ c.loop-place-test.true c.index-nodes-place.is c.of.ensures c.in_ok-number_from.ensures
    (slice_get-get_or c.args.roles.now c.loop-place.place _ (omega arith)) c.loop-place.invariant c.in_ok-put.ensures

pub returns : goal.returns
returns c = subst (λ es. AreSplit c.args.roles.now es c.loop-place.groups.shared.items c.loop-place.groups.subjects.items c.loop-place.groups.objects.items) (entries-end c.args.nodes.now c.loop-place.place c.loop-place-test.false) c.loop-place.invariant
