use Rattle.std.proofs.Common.{◌≡◌, ◌++◌, None, replicate}
use Rattle.answer_rows.proofs.text_rows.push_unbound.Given as goal

abbrev pub invariant-loop : goal.invariant-loop
invariant-loop l = l.cells.items ≡ l.initial.cells.items ++ replicate l.counter None
