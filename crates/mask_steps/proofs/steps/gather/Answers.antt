use Rattle.std.proofs.Common.{◌-◌, sym, ◌∙◌, refl, arith}
use Rattle.std.proofs.lemmas.Option.{slice_get_within}
use Rattle.pattern_rel.proofs.MaskLaws.{IsUsable-kept, words_kept}
use Rattle.mask_steps.proofs.PlaceLaws.{StayBut, work_at, usable_at, apart_at, can_fold, room_at, stay_one, stay_two, together_moved}
use Rattle.mask_steps.proofs.HeldLaws.{taken_at, has_mask, all_lists_stay, values_stay}
use Rattle.mask_steps.proofs.StepLaws.{met_folded, values_first, values_later}
use Rattle.mask_steps.proofs.MeasureLaws.{bits_stay}
use Rattle.mask_steps.proofs.steps.gather.Goals as goal

pub fold-requires-clause-can : goal.fold-requires-clause-can
fold-requires-clause-can c = can_fold c.args.prepared.now c.requires.fits c.args.i c.args.var.0 c.get-entry.result.now c.get-into.result c.get-entry.ensures c.get-into.ensures

pub fold-requires-clause-room : goal.fold-requires-clause-room
fold-requires-clause-room c = room_at c.args.prepared.now c.requires.fits c.args.i c.args.var.0 c.get-entry.result.now c.get-into.result c.side_of-side.result.0 c.get-entry.ensures c.get-into.ensures

pub fold-requires-in-Some-clause-can : goal.fold-requires-in-Some-clause-can
fold-requires-in-Some-clause-can c = can_fold c.args.prepared.now c.requires.fits c.args.i (c.len.result - 1) c.get-entry.result.now c.get-spare.result c.get-entry.ensures c.get-spare.ensures

pub fold-requires-in-Some-clause-room : goal.fold-requires-in-Some-clause-room
fold-requires-in-Some-clause-room c = room_at c.args.prepared.now c.requires.fits c.args.i (c.len.result - 1) c.get-entry.result.now c.get-spare.result c.side_of-side.result.0 c.get-entry.ensures c.get-spare.ensures

pub meet-requires-clause-into : goal.meet-requires-clause-into
meet-requires-clause-into c =
    IsUsable-kept _ _ c.get-spare.result c.get-into.result c.fold-in-Some.ensures.keeps (usable_at c.args.prepared.now c.requires.fits c.args.var.0 c.get-into.result (work_at c.args.prepared.now c.args.var.0 c.get-into.result c.get-into.ensures))

pub meet-requires-clause-other : goal.meet-requires-clause-other
meet-requires-clause-other c =
    IsUsable-kept _ _ c.get-spare.result c.get-spare.result c.fold-in-Some.ensures.keeps (usable_at c.args.prepared.now c.requires.fits (c.len.result - 1) c.get-spare.result (work_at c.args.prepared.now (c.len.result - 1) c.get-spare.result c.get-spare.ensures))

pub meet-requires-clause-apart : goal.meet-requires-clause-apart
meet-requires-clause-apart c =
    let taken = taken_at c.args.prepared.now c.args.i c.args.var.0 c.get-entry.result.now c.side_of-side.result.0 c.side_of-side.result.1 c.requires.fits c.requires.there c.get-entry.ensures c.side_of-side.ensures in
    let mask = has_mask c.args.prepared.now c.get-entry.result.now c.args.var.0 c.side_of-side.result.0 c.side_of-side.result.1 taken in
    apart_at c.args.prepared.now c.requires.fits c.args.var.0 (c.len.result - 1) c.get-into.result c.get-spare.result
    (work_at c.args.prepared.now c.args.var.0 c.get-into.result c.get-into.ensures) (work_at c.args.prepared.now (c.len.result - 1) c.get-spare.result c.get-spare.ensures) (omega arith)

pub returns-in-None-clause-values : goal.returns-in-None-clause-values
returns-in-None-clause-values c = values_first c.args.prepared.now c.args.i c.args.var.0 c.get-entry.result.now c.side_of-side.result.0 c.side_of-side.result.1 c.get-entry.ensures
    (taken_at c.args.prepared.now c.args.i c.args.var.0 c.get-entry.result.now c.side_of-side.result.0 c.side_of-side.result.1 c.requires.fits c.requires.there c.get-entry.ensures c.side_of-side.ensures)
    c.get-into.result c.get-into.ensures c.fold.new.pool c.args.kinds.now c.set.new.self (sym c.kind.ensures ∙ c.in-None.is) c.set.ensures.kind c.fold.ensures.folded

pub returns-in-None-clause-others : goal.returns-in-None-clause-others
returns-in-None-clause-others c = λ v x differ.
    let stay = stay_one c.args.prepared.now c.fold.new.pool c.requires.fits c.args.var.0 c.get-into.result (work_at c.args.prepared.now c.args.var.0 c.get-into.result c.get-into.ensures) c.fold.ensures.keeps in
    values_stay c.args.prepared.now c.fold.new.pool c.args.var.0 c.args.var.0 stay c.args.kinds.now c.set.new.self v x (c.set.ensures.others v differ) (λ within. (differ, differ))

pub returns-in-None-clause-lists : goal.returns-in-None-clause-lists
returns-in-None-clause-lists c =
    let stay = stay_one c.args.prepared.now c.fold.new.pool c.requires.fits c.args.var.0 c.get-into.result (work_at c.args.prepared.now c.args.var.0 c.get-into.result c.get-into.ensures) c.fold.ensures.keeps in
    let within = slice_get_within c.args.prepared.now.work c.args.var.0 c.get-into.result c.get-into.ensures in
    all_lists_stay c.args.prepared.now c.fold.new.pool c.args.var.0 c.args.var.0 stay within within

pub returns-in-None-clause-bits : goal.returns-in-None-clause-bits
returns-in-None-clause-bits c =
    let stay = stay_one c.args.prepared.now c.fold.new.pool c.requires.fits c.args.var.0 c.get-into.result (work_at c.args.prepared.now c.args.var.0 c.get-into.result c.get-into.ensures) c.fold.ensures.keeps in
    let within = slice_get_within c.args.prepared.now.work c.args.var.0 c.get-into.result c.get-into.ensures in
    bits_stay c.args.prepared.now c.fold.new.pool c.args.var.0 c.args.var.0 stay within within

pub returns-in-None-clause-layout : goal.returns-in-None-clause-layout
returns-in-None-clause-layout c = record { same = refl; fits = together_moved c.args.prepared.now c.fold.new.pool c.requires.fits c.fold.ensures.keeps.live }

-- the mask of the variable and the last one are written in turn, and no other
both_written : (c : goal.After-meet) → StayBut c.args.prepared.now c.meet.new.pool c.args.var.0 (c.len.result - 1)
both_written c = stay_two c.args.prepared.now c.meet.new.pool c.requires.fits c.fold-in-Some.new.pool c.args.var.0 (c.len.result - 1) c.get-into.result c.get-spare.result
    (work_at c.args.prepared.now c.args.var.0 c.get-into.result c.get-into.ensures) (work_at c.args.prepared.now (c.len.result - 1) c.get-spare.result c.get-spare.ensures) c.fold-in-Some.ensures.keeps c.meet.ensures.keeps

pub returns-in-Some-clause-values : goal.returns-in-Some-clause-values
returns-in-Some-clause-values c =
    let usable = usable_at c.args.prepared.now c.requires.fits c.args.var.0 c.get-into.result (work_at c.args.prepared.now c.args.var.0 c.get-into.result c.get-into.ensures) in
    let taken = taken_at c.args.prepared.now c.args.i c.args.var.0 c.get-entry.result.now c.side_of-side.result.0 c.side_of-side.result.1 c.requires.fits c.requires.there c.get-entry.ensures c.side_of-side.ensures in
    let mask = has_mask c.args.prepared.now c.get-entry.result.now c.args.var.0 c.side_of-side.result.0 c.side_of-side.result.1 taken in
    let apart = apart_at c.args.prepared.now c.requires.fits (c.len.result - 1) c.args.var.0 c.get-spare.result c.get-into.result
    (work_at c.args.prepared.now (c.len.result - 1) c.get-spare.result c.get-spare.ensures) (work_at c.args.prepared.now c.args.var.0 c.get-into.result c.get-into.ensures) (omega arith) in
    let same = words_kept c.args.prepared.now.pool c.fold-in-Some.new.pool c.get-spare.result c.get-into.result c.fold-in-Some.ensures.keeps usable apart in
    values_later c.args.prepared.now c.args.i c.args.var.0 c.get-entry.result.now c.side_of-side.result.0 c.side_of-side.result.1 c.get-entry.ensures taken
    c.get-into.result c.get-into.ensures c.meet.new.pool c.args.kinds.now c.in-Some.held (sym c.kind.ensures ∙ c.in-Some.is)
    (λ n. met_folded _ _ _ _ _ _ n same c.cut_between.ensures (c.fold-in-Some.ensures.folded n) (c.meet.ensures.both n))

pub returns-in-Some-clause-others : goal.returns-in-Some-clause-others
returns-in-Some-clause-others c = λ v x differ.
    values_stay c.args.prepared.now c.meet.new.pool c.args.var.0 (c.len.result - 1) (both_written c) c.args.kinds.now c.args.kinds.now v x refl (λ within. (differ, omega (arith, c.len.ensures)))

pub returns-in-Some-clause-lists : goal.returns-in-Some-clause-lists
returns-in-Some-clause-lists c =
    let within = slice_get_within c.args.prepared.now.work c.args.var.0 c.get-into.result c.get-into.ensures in
    let also = slice_get_within c.args.prepared.now.work (c.len.result - 1) c.get-spare.result c.get-spare.ensures in
    all_lists_stay c.args.prepared.now c.meet.new.pool c.args.var.0 (c.len.result - 1) (both_written c) within also

pub returns-in-Some-clause-bits : goal.returns-in-Some-clause-bits
returns-in-Some-clause-bits c =
    let within = slice_get_within c.args.prepared.now.work c.args.var.0 c.get-into.result c.get-into.ensures in
    let also = slice_get_within c.args.prepared.now.work (c.len.result - 1) c.get-spare.result c.get-spare.ensures in
    bits_stay c.args.prepared.now c.meet.new.pool c.args.var.0 (c.len.result - 1) (both_written c) within also

pub returns-in-Some-clause-layout : goal.returns-in-Some-clause-layout
returns-in-Some-clause-layout c = record {
  same = refl;
  fits = together_moved c.args.prepared.now c.meet.new.pool c.requires.fits (λ m live. c.meet.ensures.keeps.live m (c.fold-in-Some.ensures.keeps.live m live));
}
