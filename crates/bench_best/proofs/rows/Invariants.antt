use Rattle.std.proofs.Common.{◌≡◌}
use Rattle.bench_best.proofs.rows.Given as goal

abbrev pub invariant-loop-i : goal.invariant-loop-i
invariant-loop-i l = l.rows.vars ≡ 6
