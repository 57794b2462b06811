use Rattle.std.proofs.Common.{All}
use Rattle.bm_term.specs.Triple.{IsRdfTriple}
use Rattle.index_image.proofs.tests.triples.Given as goal

abbrev pub invariant-loop-texts : goal.invariant-loop-texts
invariant-loop-texts l = All IsRdfTriple l.list.items
