use Rattle.std.proofs.lemmas.Bool.{iff_false}
use Rattle.pattern_rel.proofs.MaskLaws.{words_kept, within_room, row_met, kept_rows}
use Rattle.pattern_rel.proofs.sides.fold_row.Goals as goal

pub returns-then-has-clause-folded : goal.returns-then-has-clause-folded
returns-then-has-clause-folded c = λ n.
    let same = words_kept _ _ _ c.args.own c.row_mask.ensures.keeps c.requires.can.first c.requires.can.first_apart in
    let zero = rw c.read.ensures.words at (c.has.ensures.0 c.if-has.true) in
    let met = row_met c.args.row.now _ n in
    kept_rows (within_room c.args.pool.now c.args.own c.args.into n c.requires.can.first c.requires.room) (c.row_mask.ensures.numbers n) (rw same at (c.and_mask.ensures.both n)) (λ there. met.0 (zero, there), λ meets. (met.1 meets).1)

pub returns-else-has-clause-folded : goal.returns-else-has-clause-folded
returns-else-has-clause-folded c = λ n.
    let has = rw c.read.ensures.words at c.has.ensures in
    (λ h. absurd (c.clear_mask.ensures.none n h), λ h. absurd (iff_false has c.if-has.false ((row_met c.args.row.now _ n).1 h.1).0))
