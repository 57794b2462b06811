use Rattle.std.proofs.Common.{ap, arith}
use Rattle.term_numbers.specs.declared.entry.Entry.{Entry}
use Rattle.term_numbers.proofs.RenumberLaws.{AreNumbered-step}
use Rattle.term_numbers.proofs.renumber.number_entries.Goals as goal

pub loop-k-preserved : goal.loop-k-preserved
loop-k-preserved c = AreNumbered-step c.args.entries.now c.loop-k.k c.args.first _ c.index-entries-k.result c.args.numbers.now c.loop-k.numbers c.loop-k-test.true c.index-entries-k.is (omega (arith, c.requires.below c.loop-k.k c.index-entries-k.result c.loop-k-test.true, ap (λ (x : Entry). x.place) c.index-entries-k.is)) c.in_ok-numbers.ensures c.requires.differ c.loop-k.invariant
