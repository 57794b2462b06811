use Rattle.std.proofs.Common.{◌≡◌, ◌++◌, map, take}
use Rattle.alg_model.specs.VarSet.{triple_set}
use Rattle.simple_trees.proofs.simple.push_sets.Given as goal

abbrev pub invariant-loop-i : goal.invariant-loop-i
invariant-loop-i l = l.into.items ≡ l.initial.into.items ++ map triple_set (take l.i l.patterns)
