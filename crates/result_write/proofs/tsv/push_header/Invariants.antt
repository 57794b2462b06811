use Rattle.std.proofs.Common.{◌≡◌, ◌∷◌, ◌++◌, map, take, string_bytes}
use Rattle.std.specs.List.{join_with_byte}
use Rattle.result_write.specs.Tsv.{question_mark}
use Rattle.result_write.proofs.tsv.push_header.Given as goal

abbrev pub invariant-loop-i : goal.invariant-loop-i
invariant-loop-i l =
    l.text.items ≡ l.initial.text.items ++ join_with_byte 9 (map (λ name. question_mark ∷ string_bytes name) (take l.i l.names))
