use Rattle.std.proofs.Common.{arith}
use Rattle.term_numbers.specs.held.Renumbered.{renumbered}
use Rattle.term_numbers.proofs.RenumberLaws.{mapped_step}
use Rattle.term_numbers.proofs.renumber.renumber.Goals as goal

pub loop-triple-preserved : goal.loop-triple-preserved
loop-triple-preserved c = mapped_step (renumbered c.args.nodes.now c.args.predicates.now) c.args.triples.now c.loop-triple.triple-index (0, 0, 0) c.loop-triple.triples (omega arith) c.loop-triple.invariant
