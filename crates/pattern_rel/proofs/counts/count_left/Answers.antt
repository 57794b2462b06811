use Rattle.std.proofs.Common.{◌+◌, ◌-◌, ◌^◌, arith, ap, length, subst, sym}
use Rattle.run_rows.specs.Row.{AscendsWithin}
use Rattle.pattern_rel.specs.Shapes.{lines_of_shape}
use Rattle.pattern_rel.proofs.LineLaws.{row_of-ascends}
use Rattle.pattern_rel.proofs.LeftLaws.{left_all, left_none, counted_next, none_behind}
use Rattle.pattern_rel.proofs.PlaceLaws.{KnowsPlace-start, KnowsPlace-later}
use Rattle.pattern_rel.proofs.counts.count_left.Goals as goal

pub loop-first-init : goal.loop-first-init
loop-first-init c = (omega (arith, ap length (left_all 0 0 c.args.firsts.now c.args.seconds.now (lines_of_shape c.args.shape.now))), KnowsPlace-start _ _)

pub count_in-total-requires-clause-ascend : goal.count_in-total-requires-clause-ascend
count_in-total-requires-clause-ascend c =
    subst (AscendsWithin 0 (2 ^ 32 - 1)) (sym c.partners_from-found.ensures.partners) (row_of-ascends _ 0 (2 ^ 32 - 1) (2 ^ 32 - 1) _ c.lines_ascend.ensures)

pub overflow_add-total : goal.overflow_add-total
overflow_add-total c =
    let counted = counted_next (2 ^ 32 - 1) (2 ^ 32 - 1) c.args.firsts.now c.args.seconds.now (lines_of_shape c.args.shape.now) c.lines_ascend.ensures c.loop-first.at c.in-Some.first _ c.in-Some.ensures.candidate c.partners_from-found.ensures.partners in
    omega (arith, counted, c.count_in-total.ensures, c.loop-first.invariant.0, c.requires.few)

pub loop-first-preserved : goal.loop-first-preserved
loop-first-preserved c =
    let counted = counted_next (2 ^ 32 - 1) (2 ^ 32 - 1) c.args.firsts.now c.args.seconds.now (lines_of_shape c.args.shape.now) c.lines_ascend.ensures c.loop-first.at c.in-Some.first _ c.in-Some.ensures.candidate c.partners_from-found.ensures.partners in
    (omega (arith, counted, c.count_in-total.ensures, c.loop-first.invariant.0), KnowsPlace-later c.in-Some.first (c.in-Some.first + 1) _ _ (omega arith) c.partners_from-found.ensures.known)

pub returns : goal.returns
returns c =
    let none = ap length (left_none (2 ^ 32 - 1) (2 ^ 32 - 1) c.args.firsts.now c.args.seconds.now (lines_of_shape c.args.shape.now) c.lines_ascend.ensures c.loop-first.at (none_behind _ _ _ _ c.in_default.ensures.candidate)) in
    omega (arith, c.loop-first.invariant.0)
