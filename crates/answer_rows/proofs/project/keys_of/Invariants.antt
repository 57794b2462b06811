use Rattle.std.proofs.Common.{◌≡◌, take}
use Rattle.answer_rows.proofs.project.keys_of.Given as goal

abbrev pub invariant-loop-i : goal.invariant-loop-i
invariant-loop-i l = l.keys.items ≡ take l.i l.rows.rows
