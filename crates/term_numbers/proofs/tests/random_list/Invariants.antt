use Rattle.std.proofs.Common.{All}
use Rattle.bm_term.specs.Triple.{IsRdfTriple}
use Rattle.term_numbers.proofs.tests.random_list.Given as goal

abbrev pub invariant-loop : goal.invariant-loop
invariant-loop l = All IsRdfTriple l.list.items
