use Rattle.std.proofs.Common.{◌↔◌, length}
use Rattle.run_rows.specs.Encoding.{runs_in, SpellsRuns}
use Rattle.run_rows.proofs.runs.are_runs.Given as goal

abbrev pub invariant-loop-run : goal.invariant-loop-run
invariant-loop-run l = SpellsRuns 0 l.columns l.bytes ↔ SpellsRuns l.low l.columns l.rest

abbrev pub decreases-loop-run : goal.decreases-loop-run
decreases-loop-run l = length (runs_in l.rest)
