use Rattle.pattern_rel.proofs.MaskLaws.{words_kept, within_room, kept_copy}
use Rattle.pattern_rel.proofs.sides.fold_members.Goals as goal

pub returns-clause-folded : goal.returns-clause-folded
returns-clause-folded c = λ n.
    let same = words_kept _ _ _ c.args.other c.copy_mask.ensures.keeps c.requires.can.second c.requires.can.second_apart in
    kept_copy (within_room c.args.pool.now c.args.own c.args.into n c.requires.can.first c.requires.room) (c.copy_mask.ensures.same n) (rw same at (c.retain_mask.ensures.kept n))
