use Rattle.std.proofs.Common.{◌≡◌, drop, fold}
use Rattle.match_relations.specs.steps.Numbers.{widened, patterns_in, extent_of}
use Rattle.match_relations.proofs.numbered.extent_of.Given as goal

abbrev pub invariant-loop-node : goal.invariant-loop-node
invariant-loop-node l = fold widened l.wide (patterns_in (drop l.node l.tree)) ≡ extent_of (patterns_in l.tree)
