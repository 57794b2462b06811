use Rattle.std.proofs.Common.{All}
use Rattle.bm_term.specs.Triple.{IsRdfTriple}
use Rattle.index_image.proofs.tests.push_row.Given as goal

abbrev pub invariant-loop-object : goal.invariant-loop-object
invariant-loop-object l = All IsRdfTriple l.list.items
