use Rattle.std.proofs.Common.{◌≡◌, ◌<◌, ◌+◌, [], length, take, drop, ◌∙◌, subst, arith}
use Rattle.std.proofs.lemmas.List.{take_all}
use Rattle.std.specs.Prelude.{slice_index_or}
use Rattle.std.specs.List.{concat}
use Rattle.bm_world.specs.World.{Step}
use Rattle.result_write.specs.held.Buffered.{HandedOn}
use Rattle.result_write.proofs.BufferLaws.{hands_more, hands_no_more, hands_last, hands_not_last, hands_some, concat-more, concat-around}
use Rattle.result_write.proofs.pieces.print_pieces.Goals as goal

pub loop-i-preserved : goal.loop-i-preserved
loop-i-preserved g c =
    let pieces = g.P.Pieces.pieces c.args.pieces.now in
    let i = c.loop-i.i in
    let within : i < length pieces = omega (arith, c.loop-i-test.true, c.count-i-end.ensures) in
    record {
      so_far = hands_more (concat (take i pieces)) c.loop-i.text.items (slice_index_or pieces i []) c.push_and_hand_on.new.text.items (concat (take (i + 1) pieces)) (concat-more pieces i within) c.loop-i.invariant.so_far c.in-Ok.ensures.step;
      later = omega (arith, c.in-Ok.ensures.cause.later);
      reads_stay = c.in-Ok.ensures.reads_stay ∙ c.loop-i.invariant.reads_stay;
      says_stay = c.in-Ok.ensures.says_stay ∙ c.loop-i.invariant.says_stay;
    }

pub returns-in-Err-clause-step : goal.returns-in-Err-clause-step
returns-in-Err-clause-step g c =
    let pieces = g.P.Pieces.pieces c.args.pieces.now in
    let i = c.loop-i.i in
    let within : i < length pieces = omega (arith, c.loop-i-test.true, c.count-i-end.ensures) in
    hands_no_more (concat (take i pieces)) c.loop-i.text.items (slice_index_or pieces i []) (concat (drop (i + 1) pieces)) (concat pieces) (concat-around pieces i within) c.loop-i.invariant.so_far c.in-Err.ensures.step

pub returns-in-Ok-print_all-clause-step : goal.returns-in-Ok-print_all-clause-step
returns-in-Ok-print_all-clause-step g c =
    let pieces = g.P.Pieces.pieces c.args.pieces.now in
    let all : take c.loop-i.i pieces ≡ pieces = take_all c.loop-i.i pieces (omega (arith, c.loop-i-test.false, c.count-i-end.ensures)) in
    let so_far = subst (λ front. Step (g.W.World.told c.args.world.now) (g.W.World.told c.loop-i.world) (HandedOn (concat front) c.loop-i.text.items)) all c.loop-i.invariant.so_far in
    hands_last (concat pieces) c.loop-i.text.items c.deref.result.now c.deref.ensures.value so_far c.in-Ok-print_all.ensures.step

pub returns-clause-step : goal.returns-clause-step
returns-clause-step g c =
    let pieces = g.P.Pieces.pieces c.args.pieces.now in
    let all : take c.loop-i.i pieces ≡ pieces = take_all c.loop-i.i pieces (omega (arith, c.loop-i-test.false, c.count-i-end.ensures)) in
    let so_far = subst (λ front. Step (g.W.World.told c.args.world.now) (g.W.World.told c.loop-i.world) (HandedOn (concat front) c.loop-i.text.items)) all c.loop-i.invariant.so_far in
    hands_not_last (concat pieces) c.loop-i.text.items so_far (hands_some c.loop-i.text.items c.deref.result.now c.deref.ensures.value c.in-Err-print_all.ensures.step)
