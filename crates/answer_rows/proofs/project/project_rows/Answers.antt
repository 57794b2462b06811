use Rattle.std.proofs.Common.{rules}
use Rattle.alg_model.specs.Answers.{project}
use Rattle.answer_rows.proofs.Lists.{map-take_next}
use Rattle.answer_rows.proofs.project.project_rows.Goals as goal

pub loop-i-preserved : goal.loop-i-preserved
loop-i-preserved c =
    let next = map-take_next (project c.args.columns.now) c.args.rows.now.rows c.loop-i.i c.row.result.now c.row.ensures.cells in
    record { wide = search rules; cut = cc (next, c.in_ok-push_row.ensures.ok, c.in_ok-project_row.ensures, c.deref.ensures.value, c.loop-i.invariant.cut) }
