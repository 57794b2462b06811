use Rattle.std.proofs.Common.{arith}
use Rattle.row_lanes.proofs.RunLaws.{IsAdded-next}
use Rattle.row_lanes.proofs.runs.add_run.Goals as goal

pub loop-place-preserved : goal.loop-place-preserved
loop-place-preserved c =
    IsAdded-next _ _ _ _ _ c.loop-place.into (omega arith) c.run_part.ensures c.loop-place.invariant
