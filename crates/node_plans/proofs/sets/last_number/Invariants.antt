use Rattle.std.proofs.Common.{◌≤◌, take, Contains}
use Rattle.alg_model.specs.declared.pattern.TriplePat.{TriplePat}
use Rattle.node_plans.proofs.sets.last_number.Given as goal

abbrev pub invariant-loop-i : goal.invariant-loop-i
invariant-loop-i l = ((pattern : TriplePat) → Contains (take l.i l.patterns) pattern → pattern.number ≤ l.last) × (l.last ≤ 256)
