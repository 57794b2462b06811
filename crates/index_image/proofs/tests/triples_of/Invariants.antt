use Rattle.std.proofs.Common.{All}
use Rattle.bm_term.specs.Triple.{IsRdfTriple}
use Rattle.index_image.proofs.tests.triples_of.Given as goal

abbrev pub invariant-loop-predicate : goal.invariant-loop-predicate
invariant-loop-predicate l = All IsRdfTriple l.list.items
