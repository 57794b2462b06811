use Rattle.pattern_rel.proofs.MaskLaws.{words_kept, within_room, kept_gathered, Keeps-then}
use Rattle.pattern_rel.proofs.sides.fold_gathered.Goals as goal

pub returns-clause-folded : goal.returns-clause-folded
returns-clause-folded c = λ n.
    let first_step = c.clear_mask.ensures.keeps in
    let first_same = words_kept _ _ _ c.args.first first_step c.requires.can.first c.requires.can.first_apart in
    let second_same = words_kept _ _ _ c.args.second (Keeps-then _ _ _ _ first_step c.gather_mask.ensures.keeps) c.requires.can.second c.requires.can.second_apart in
    kept_gathered (within_room c.args.pool.now c.args.second c.args.into n c.requires.can.second c.requires.room) (c.clear_mask.ensures.none n) (rw first_same at (c.gather_mask.ensures.gathered n)) (rw second_same at (c.and_mask.ensures.both n))
