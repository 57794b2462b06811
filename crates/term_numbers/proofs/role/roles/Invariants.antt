use Rattle.std.proofs.Common.{take}
use Rattle.term_numbers.specs.held.Seen.{AreRoles}
use Rattle.term_numbers.proofs.role.roles.Given as goal

abbrev pub invariant-loop-triple : goal.invariant-loop-triple
invariant-loop-triple l = AreRoles (take l.triple-index l.triples) l.nodes l.roles.items
