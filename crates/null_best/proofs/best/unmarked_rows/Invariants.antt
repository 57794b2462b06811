use Rattle.std.proofs.Common.{◌≡◌, ◌++◌, map, drop}
use Rattle.pattern_tree.specs.FlatTable.{row_of}
use Rattle.null_best.specs.steps.Marks.{unmarked}
use Rattle.null_best.proofs.best.unmarked_rows.Given as goal

abbrev pub invariant-loop-i : goal.invariant-loop-i
invariant-loop-i l =
    (l.rows.vars ≡ l.vars) × (l.rows.rows ++ map row_of (unmarked (drop l.i l.keys) (drop l.i l.marks)) ≡ map row_of (unmarked l.keys l.marks))
