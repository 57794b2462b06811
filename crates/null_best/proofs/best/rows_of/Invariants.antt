use Rattle.std.proofs.Common.{◌≡◌, map, take}
use Rattle.pattern_tree.specs.FlatTable.{row_of}
use Rattle.null_best.proofs.best.rows_of.Given as goal

abbrev pub invariant-loop-key : goal.invariant-loop-key
invariant-loop-key l = (l.sorted.vars ≡ l.vars) × (l.sorted.rows ≡ map row_of (take l.key-index l.keys))
