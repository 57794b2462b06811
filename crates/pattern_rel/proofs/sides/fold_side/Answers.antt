use Rattle.pattern_rel.proofs.sides.fold_side.Goals as goal

pub returns-in-OneRow-clause-folded : goal.returns-in-OneRow-clause-folded
returns-in-OneRow-clause-folded c = rw c.in-OneRow.is c.fold_row.ensures.folded

pub returns-else-is_sparse-clause-folded : goal.returns-else-is_sparse-clause-folded
returns-else-is_sparse-clause-folded c = rw c.in-Pairs.is c.fold_rows.ensures.folded
