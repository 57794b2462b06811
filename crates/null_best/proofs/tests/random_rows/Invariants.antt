use Rattle.std.proofs.Common.{◌≡◌}
use Rattle.null_best.proofs.tests.random_rows.Given as goal

abbrev pub invariant-loop-i : goal.invariant-loop-i
invariant-loop-i l = l.rows.vars ≡ 5
