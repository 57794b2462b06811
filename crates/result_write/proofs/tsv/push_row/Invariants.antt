use Rattle.std.proofs.Common.{◌≡◌, ◌++◌, map, take}
use Rattle.std.specs.List.{join_with_byte}
use Rattle.result_write.specs.Tsv.{cell_text}
use Rattle.result_write.proofs.tsv.push_row.Given as goal

abbrev pub invariant-loop-i : goal.invariant-loop-i
invariant-loop-i l =
    l.text.items ≡ l.initial.text.items ++ join_with_byte 9 (map cell_text (take l.i l.cells))
