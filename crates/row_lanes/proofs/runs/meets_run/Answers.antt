use Rattle.std.proofs.Common.{rules, arith}
use Rattle.row_lanes.proofs.RunLaws.{IsUnmet-next, met_here}
use Rattle.row_lanes.proofs.runs.meets_run.Goals as goal

pub returns-then-words-place-ne0 : goal.returns-then-words-place-ne0
returns-then-words-place-ne0 c =
    (λ h. met_here _ _ _ _ c.args.words.now (omega (arith, c.type_inv.words c.loop-place.place)) c.run_part.ensures c.if-words-place-ne0.true, λ met. search rules)

pub loop-place-preserved : goal.loop-place-preserved
loop-place-preserved c =
    IsUnmet-next _ _ _ _ _ c.run_part.ensures c.if-words-place-ne0.false c.loop-place.invariant
