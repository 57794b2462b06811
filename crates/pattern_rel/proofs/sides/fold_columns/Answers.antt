use Rattle.pattern_rel.proofs.MaskLaws.{words_kept, within_room, column_kept, kept_rows}
use Rattle.pattern_rel.proofs.sides.fold_columns.Goals as goal

pub returns-clause-folded : goal.returns-clause-folded
returns-clause-folded c = λ n.
    let same = words_kept _ _ _ c.args.second c.columns_mask.ensures.keeps c.requires.can.second c.requires.can.second_apart in
    kept_rows (within_room c.args.pool.now c.args.second c.args.into n c.requires.can.second c.requires.room) (c.columns_mask.ensures.kept n) (rw same at (c.and_mask.ensures.both n)) (column_kept _ _ _ _ c.rows.ensures.ascend n)
