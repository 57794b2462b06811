use Rattle.std.proofs.Common.{◌≡◌, take}
use Rattle.alg_model.specs.Answers.{project}
use Rattle.answer_rows.proofs.project.project_row.Given as goal

abbrev pub invariant-loop-i : goal.invariant-loop-i
invariant-loop-i l = l.cells.items ≡ project (take l.i l.columns) l.row
