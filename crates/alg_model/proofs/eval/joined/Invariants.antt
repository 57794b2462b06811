use Rattle.std.proofs.Common.{◌≡◌, ◌==◌, take}
use Rattle.std.specs.Cmp.Lexicographic.{pointwise}
use Rattle.alg_model.specs.Row.{join}
use Rattle.alg_model.proofs.eval.joined.Given as goal

abbrev pub invariant-loop-row : goal.invariant-loop-row
invariant-loop-row l = l.rows.items ≡ join (pointwise ◌==◌) (take l.row-index l.left) l.right
