use Rattle.std.proofs.Common.{◌≡◌, ◌++◌}
use Rattle.std.specs.Slice.Iter.{iter_rest}
use Rattle.alg_model.specs.Row.{merge}
use Rattle.alg_model.proofs.row.Row.merge.Given as goal

abbrev pub invariant-loop-cell : goal.invariant-loop-cell
invariant-loop-cell l =
    l.cells.items ++ merge (iter_rest l.cell-iterator.a) (iter_rest l.cell-iterator.b) ≡ merge l.self l.other
