use Rattle.std.proofs.Common.{◌≡◌, length, map, take}
use Rattle.alg_model.specs.Answers.{project}
use Rattle.answer_rows.proofs.project.project_rows.Given as goal

abbrev pub invariant-loop-i : goal.invariant-loop-i
invariant-loop-i l = record { wide : l.projected.width ≡ length l.columns; cut : l.projected.rows ≡ map (project l.columns) (take l.i l.rows.rows) }
