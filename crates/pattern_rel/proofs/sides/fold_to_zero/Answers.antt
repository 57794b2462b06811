use Rattle.std.proofs.Common.{◌*◌, sym, ◌∙◌}
use Rattle.mask_pool.specs.Mask.{words_for}
use Rattle.mask_pool.specs.Region.{words_of}
use Rattle.pattern_rel.specs.Shapes.{lines_of_shape}
use Rattle.pattern_rel.specs.steps.Places.{walked}
use Rattle.pattern_rel.proofs.MaskLaws.{within_room, some_opened, none_opened, folded_zero}
use Rattle.pattern_rel.proofs.sides.fold_to_zero.Goals as goal

pub returns-then-some-clause-folded : goal.returns-then-some-clause-folded
returns-then-some-clause-folded c =
    let firsts = words_of c.args.pool.now c.args.first in
    let seconds = words_of c.args.pool.now c.args.second in
    let ls = lines_of_shape c.args.shape.now in
    let slice = walked c.args.shape.now in
    let found = rw (c.read.ensures.words, c.read-2.ensures.words) at c.open_next.ensures.found in
    let some = some_opened firsts seconds ls slice c.open_next.result found (sym c.is_some-some.ensures ∙ c.if-some.true) c.requires.zero in
    let within = within_room c.args.pool.now c.args.second c.args.into 0 c.requires.can.second c.requires.room some.0 in
    folded_zero firsts seconds ls slice (64 * words_for c.args.into.bits) _ _ some within c.requires.zero c.clear_mask.ensures.none c.add_to_mask.ensures.either

pub returns-else-some-clause-folded : goal.returns-else-some-clause-folded
returns-else-some-clause-folded c = λ n.
    let firsts = words_of c.args.pool.now c.args.first in
    let seconds = words_of c.args.pool.now c.args.second in
    let ls = lines_of_shape c.args.shape.now in
    let slice = walked c.args.shape.now in
    let none = rw (c.read.ensures.words, c.read-2.ensures.words) at c.open_next.ensures.none in (
      λ h. absurd (c.clear_mask.ensures.none n h),
      λ h. absurd (none_opened firsts seconds ls slice c.open_next.result none (sym c.is_some-some.ensures ∙ c.if-some.false) n h.0 h.1),
    )
