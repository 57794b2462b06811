use Rattle.std.proofs.Common.{◌≡◌, drop}
use Rattle.match_relations.specs.steps.Numbers.{with_number, patterns_in}
use Rattle.match_relations.proofs.numbered.numbered.Given as goal

abbrev pub invariant-loop-node : goal.invariant-loop-node
invariant-loop-node l = with_number l.number (patterns_in (drop l.node l.tree)) ≡ with_number l.number (patterns_in l.tree)
