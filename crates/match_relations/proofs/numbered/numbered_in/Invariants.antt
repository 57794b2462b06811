use Rattle.std.proofs.Common.{◌≡◌, drop}
use Rattle.match_relations.specs.steps.Numbers.{with_number}
use Rattle.match_relations.proofs.numbered.numbered_in.Given as goal

abbrev pub invariant-loop-i : goal.invariant-loop-i
invariant-loop-i l = with_number l.number (drop l.i l.patterns) ≡ with_number l.number l.patterns
