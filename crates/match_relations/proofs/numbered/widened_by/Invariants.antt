use Rattle.std.proofs.Common.{◌≡◌, drop, fold}
use Rattle.match_relations.specs.steps.Numbers.{widened}
use Rattle.match_relations.proofs.numbered.widened_by.Given as goal

abbrev pub invariant-loop-i : goal.invariant-loop-i
invariant-loop-i l = fold widened l.wide (drop l.i l.patterns) ≡ fold widened l.fn.extent l.patterns
