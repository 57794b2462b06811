use Rattle.std.proofs.Common.{◌≡◌, take}
use Rattle.answer_rows.proofs.project.rows_of.Given as goal

abbrev pub invariant-loop-key : goal.invariant-loop-key
invariant-loop-key l = record { wide : l.rows.width ≡ l.width; taken : l.rows.rows ≡ take l.key-index l.keys }
