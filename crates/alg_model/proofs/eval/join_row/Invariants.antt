use Rattle.std.proofs.Common.{◌≡◌, ◌==◌, ◌++◌, take}
use Rattle.std.specs.Cmp.Lexicographic.{pointwise}
use Rattle.std.specs.List.{filter_map}
use Rattle.alg_model.specs.Row.{merged}
use Rattle.alg_model.proofs.eval.join_row.Given as goal

abbrev pub invariant-loop-other : goal.invariant-loop-other
invariant-loop-other l =
    l.into.items ≡ l.initial.into.items ++ filter_map (merged (pointwise ◌==◌) l.row) (take l.other-index l.right)
