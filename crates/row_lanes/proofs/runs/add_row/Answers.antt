use Rattle.row_lanes.proofs.RowLaws.{IsAddingRow-next}
use Rattle.row_lanes.proofs.runs.add_row.Goals as goal

pub loop-run-preserved : goal.loop-run-preserved
loop-run-preserved c =
    let either = rw c.end.ensures at c.add_run.ensures.either in
    IsAddingRow-next _ _ _ _ _ c.in-Some.run' _ _ c.in-Some.ensures.steps c.add_run.ensures.same_length either c.loop-run.invariant
