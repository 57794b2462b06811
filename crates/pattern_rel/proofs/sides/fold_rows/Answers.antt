use Rattle.pattern_rel.proofs.MaskLaws.{words_kept, within_room, row_kept, kept_rows}
use Rattle.pattern_rel.proofs.sides.fold_rows.Goals as goal

pub returns-clause-folded : goal.returns-clause-folded
returns-clause-folded c = λ n.
    let same = words_kept _ _ _ c.args.own c.rows_mask.ensures.keeps c.requires.can.first c.requires.can.first_apart in
    kept_rows (within_room c.args.pool.now c.args.own c.args.into n c.requires.can.first c.requires.room) (c.rows_mask.ensures.kept n) (rw same at (c.and_mask.ensures.both n)) (row_kept _ _ _ _ c.rows.ensures.ascend n)
