use Rattle.pattern_rel.proofs.ShapeLaws.{row_zero, column_zero}
use Rattle.pattern_rel.proofs.sides.fold_across.Goals as goal

pub fold_to_zero-requires-in-OneRow-clause-zero : goal.fold_to_zero-requires-in-OneRow-clause-zero
fold_to_zero-requires-in-OneRow-clause-zero c = rw c.in-OneRow.is (λ n m there. row_zero _ n m there)

pub fold_to_zero-requires-in-Column-clause-zero : goal.fold_to_zero-requires-in-Column-clause-zero
fold_to_zero-requires-in-Column-clause-zero c = rw c.in-Column.is (λ n m there. column_zero c.in-Column.column n m c.in-Column.slice there)

pub returns-else-is_sparse-clause-folded : goal.returns-else-is_sparse-clause-folded
returns-else-is_sparse-clause-folded c = rw c.in-Pairs.is c.fold_columns.ensures.folded
