use Rattle.std.proofs.Common.{◌≡◌, ◌++◌, take, drop, map}
use Rattle.term_numbers.specs.held.Renumbered.{renumbered}
use Rattle.term_numbers.proofs.renumber.renumber.Given as goal

abbrev pub invariant-loop-triple : goal.invariant-loop-triple
invariant-loop-triple l = l.triples ≡ map (renumbered l.nodes l.predicates) (take l.triple-index l.initial.triples) ++ drop l.triple-index l.initial.triples
