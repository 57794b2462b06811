use Rattle.std.proofs.Common.{◌≡◌, ◌+◌, length}
use Rattle.run_rows.specs.Runs.{members}
use Rattle.run_rows.specs.Encoding.{runs_in}
use Rattle.run_rows.proofs.runs.count.Given as goal

abbrev pub invariant-loop-run : goal.invariant-loop-run
invariant-loop-run l =
    l.total + length (members (runs_in l.rest)) ≡ length (members (runs_in l.bytes))

abbrev pub decreases-loop-run : goal.decreases-loop-run
decreases-loop-run l = length (runs_in l.rest)
