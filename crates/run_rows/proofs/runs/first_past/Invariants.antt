use Rattle.std.proofs.Common.{◌-◌}
use Rattle.run_rows.specs.Encoding.{runs_in}
use Rattle.run_rows.proofs.SearchLaws.{IsHalved}
use Rattle.run_rows.proofs.runs.first_past.Given as goal

abbrev pub invariant-loop-low : goal.invariant-loop-low
invariant-loop-low l = IsHalved l.n (runs_in l.bytes) l.low l.high

abbrev pub decreases-loop-low : goal.decreases-loop-low
decreases-loop-low l = l.high - l.low
