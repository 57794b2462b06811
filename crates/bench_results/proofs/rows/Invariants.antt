use Rattle.std.proofs.Common.{◌≡◌}
use Rattle.bench_results.proofs.rows.Given as goal

-- the rows have three columns
abbrev pub invariant-loop-texts : goal.invariant-loop-texts
invariant-loop-texts l = l.rows.width ≡ 3

abbrev pub invariant-loop : goal.invariant-loop
invariant-loop l = l.rows.width ≡ 3
