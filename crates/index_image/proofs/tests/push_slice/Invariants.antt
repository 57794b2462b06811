use Rattle.std.proofs.Common.{All, length}
use Rattle.bm_term.specs.Triple.{IsRdfTriple}
use Rattle.index_image.proofs.tests.push_slice.Given as goal

abbrev pub invariant-loop-subject : goal.invariant-loop-subject
invariant-loop-subject l = All IsRdfTriple l.list.items

abbrev pub decreases-loop-subject : goal.decreases-loop-subject
decreases-loop-subject l = length l.lines
