use Rattle.std.proofs.Common.{◌≡◌, All, length, map, take}
use Rattle.pattern_tree.specs.FlatTable.{row_of}
use Rattle.null_best.proofs.best.keys_of.Given as goal

abbrev pub invariant-loop-i : goal.invariant-loop-i
invariant-loop-i l = (map row_of l.keys.items ≡ take l.i l.rows.rows) × All (λ key. length key ≡ l.rows.vars) l.keys.items
