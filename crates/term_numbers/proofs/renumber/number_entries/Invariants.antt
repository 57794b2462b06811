use Rattle.term_numbers.specs.held.Entries.{AreNumbered}
use Rattle.term_numbers.proofs.renumber.number_entries.Given as goal

abbrev pub invariant-loop-k : goal.invariant-loop-k
invariant-loop-k l = AreNumbered l.entries l.k l.first l.initial.numbers l.numbers
