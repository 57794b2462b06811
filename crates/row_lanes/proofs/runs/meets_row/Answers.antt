use Rattle.std.proofs.Common.{rules}
use Rattle.row_lanes.proofs.RowLaws.{IsMeeting-next, met_row}
use Rattle.row_lanes.proofs.runs.meets_row.Goals as goal

pub returns-then-meets_run : goal.returns-then-meets_run
returns-then-meets_run c =
    let met = rw c.end.ensures at (c.meets_run.ensures.0 (search rules)) in
    (λ h. met_row _ _ c.in-Some.run' _ _ c.in-Some.ensures.steps met c.loop-run.invariant, λ h. search rules)

pub loop-run-preserved : goal.loop-run-preserved
loop-run-preserved c =
    let unmet = rw c.end.ensures at c.meets_run.ensures.1 in
    IsMeeting-next _ _ c.in-Some.run' _ _ c.in-Some.ensures.steps (λ met. let test = unmet met in absurd (cc)) c.loop-run.invariant
