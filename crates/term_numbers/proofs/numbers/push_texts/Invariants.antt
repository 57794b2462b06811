use Rattle.std.proofs.Common.{◌≡◌, ◌++◌, take}
use Rattle.term_numbers.specs.held.Entries.{texts_in}
use Rattle.term_numbers.proofs.numbers.push_texts.Given as goal

abbrev pub invariant-loop-entry : goal.invariant-loop-entry
invariant-loop-entry l = l.table ≡ l.initial.table ++ texts_in (take l.entry-index l.entries)
