use Rattle.std.proofs.Common.{◌≡◌, ◌==◌, ◌++◌, length}
use Rattle.std.specs.Cmp.Lexicographic.{pointwise}
use Rattle.std.specs.Vec.Iter.{into_iter_items, into_iter_len}
use Rattle.alg_model.specs.Row.{join, without_partner}
use Rattle.alg_model.proofs.eval.left_joined.Given as goal

abbrev pub invariant-loop-row : goal.invariant-loop-row
invariant-loop-row l =
    let rest = into_iter_items l.row-iterator in
    (l.rows.items ++ join (pointwise ◌==◌) rest l.right ≡ join (pointwise ◌==◌) l.fn.left.items l.right)
    × (l.alone.items ++ without_partner (pointwise ◌==◌) rest l.right ≡ without_partner (pointwise ◌==◌) l.fn.left.items l.right)
    × (into_iter_len l.row-iterator ≡ length rest)
