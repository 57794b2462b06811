use Rattle.std.proofs.Common.{All}
use Rattle.bm_term.specs.Triple.{IsRdfTriple}
use Rattle.bench_images.proofs.ring.Given as goal

abbrev pub invariant-loop-node : goal.invariant-loop-node
invariant-loop-node l = All IsRdfTriple l.list.items
