use Rattle.std.proofs.Common.{◌↔◌, drop}
use Rattle.index_file.specs.steps.Rows.{RowsMatch}
use Rattle.index_file.proofs.agreement.rows_match.Given as goal

abbrev pub invariant-loop-n : goal.invariant-loop-n
invariant-loop-n l = RowsMatch 0 l.others l.slices ↔ RowsMatch l.n l.others (drop l.n l.slices)
