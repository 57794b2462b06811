use Rattle.term_numbers.proofs.EntryLaws.{IsGroup-ascending}
use Rattle.term_numbers.proofs.group.ascending.Goals as goal

pub returns : goal.returns
returns c = IsGroup-ascending c.args.texts.now _ _ c.requires c.in_ok-entries.ensures c.in_ok-ascending.ensures.same c.in_ok-ascending.ensures.sorted
