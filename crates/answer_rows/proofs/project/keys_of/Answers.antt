use Rattle.answer_rows.proofs.Lists.{take-next}
use Rattle.answer_rows.proofs.project.keys_of.Goals as goal

pub loop-i-preserved : goal.loop-i-preserved
loop-i-preserved c =
    let next = take-next c.args.rows.now.rows c.loop-i.i c.row.result.now c.row.ensures.cells in
    cc (next, c.in_ok-push.ensures.items, c.new.ensures, c.loop-i.invariant)
