use Rattle.std.proofs.Common.{◌≡◌}
use Rattle.null_best.proofs.tests.rows_of.Given as goal

abbrev pub invariant-loop-cells : goal.invariant-loop-cells
invariant-loop-cells l = l.rows.vars ≡ 5
