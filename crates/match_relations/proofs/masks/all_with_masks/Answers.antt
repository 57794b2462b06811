use Rattle.std.proofs.Common.{length, ap, ◌++◌, arith}
use Rattle.match_relations.specs.declared.borrowed.Borrowed.{Borrowed}
use Rattle.match_relations.specs.steps.Masks.{masks_in}
use Rattle.match_relations.proofs.MaskLaws.{entry_pushed, masks_pushed, words_left, knows_left}
use Rattle.match_relations.proofs.masks.all_with_masks.Goals as goal

pub loop-one-preserved : goal.loop-one-preserved
loop-one-preserved c =
    let split = c.in-Some.ensures.steps in
    let so_far = c.loop-one.invariant in
    let long = ap (length {A = Borrowed}) split.0 in
    let pushed = c.in_ok-push.ensures.ok in
    record {
      entries = rw pushed (entry_pushed c.args.counts.now c.loop-one.entries c.with_masks.result c.in-Some.one _ _ _ split.0 c.with_masks.ensures.entry so_far.entries);
      masks = λ work are. rw pushed (masks_pushed c.with_masks.new.pool work c.loop-one.entries c.with_masks.result (c.with_masks.ensures.masks (work ++ masks_in c.loop-one.entries) (so_far.masks work are)));
      words = words_left c.args.counts.now c.in-Some.one _ _ _ c.with_masks.new.pool.spare split.0 so_far.words c.with_masks.ensures.spare;
      knows = knows_left c.in-Some.one _ _ split.0 so_far.knows;
      rest_len = omega (arith, split.1, long, so_far.rest_len);
    }
