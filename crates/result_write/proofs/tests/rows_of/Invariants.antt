use Rattle.std.proofs.Common.{◌≡◌}
use Rattle.result_write.proofs.tests.rows_of.Given as goal

abbrev pub invariant-loop-texts : goal.invariant-loop-texts
invariant-loop-texts l = l.rows.width ≡ 2
