use Rattle.row_lanes.proofs.RunLaws.{IsAdded}
use Rattle.row_lanes.proofs.runs.add_run.Given as goal

abbrev pub invariant-loop-place : goal.invariant-loop-place
invariant-loop-place l = IsAdded l.start l.end l.place l.initial.into l.into
