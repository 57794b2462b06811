use Rattle.std.proofs.Common.{◌≡◌, take}
use Rattle.alg_model.specs.VarSet.{list_set}
use Rattle.alg_model.proofs.var_set.list_vars.Given as goal

abbrev pub invariant-loop-pattern : goal.invariant-loop-pattern
invariant-loop-pattern l = l.vars ≡ list_set (take l.pattern-index l.patterns)
