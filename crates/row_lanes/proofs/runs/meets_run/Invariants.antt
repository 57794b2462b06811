use Rattle.row_lanes.proofs.RunLaws.{IsUnmet}
use Rattle.row_lanes.proofs.runs.meets_run.Given as goal

abbrev pub invariant-loop-place : goal.invariant-loop-place
invariant-loop-place l = IsUnmet l.start l.end l.place l.words
