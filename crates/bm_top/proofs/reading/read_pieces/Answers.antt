use Rattle.std.proofs.Common.{◌∙◌, ⊎_elim, inl, arith}
use Rattle.std.proofs.lemmas.Result.{err_from_is_err_and}
use Rattle.bm_world.proofs.WholeFile.{is_open, reads_fault}
use Rattle.bm_world.proofs.Steps.{rose_later}
use Rattle.bm_top.proofs.PieceByPiece.{all_came, more_came, never_fault, no_memory, no_room, none_came, not_opened, too_much_came}
use Rattle.bm_top.proofs.reading.read_pieces.Goals as goal

pub returns-in_err-room-clause-came : goal.returns-in_err-room-clause-came
returns-in_err-room-clause-came g c =
    let end = err_from_is_err_and c.from_residual-in_err-room.result c.from_residual-in_err-room.ensures.1 in
    rw (end.1, end.2) (no_room c.args.limit _ _ c.in_ok-open.ensures.step)

pub loop-room-init : goal.loop-room-init
loop-room-init g c = record {
  so_far = none_came c.args.limit _ c.args.reader.now c.requires c.in_ok-open.ensures.step;
  room = omega (arith, c.in_ok-room.ensures.len, c.as_mut_slice-buffer.ensures.len);
  later = omega (arith, c.in_ok-open.ensures.cause.later);
  writes_stay = c.open.ensures.writes_stay;
  says_stay = c.open.ensures.says_stay;
}

pub returns-in_err-count-clause-came : goal.returns-in_err-count-clause-came
returns-in_err-count-clause-came g c =
    let end = err_from_is_err_and c.from_residual-in_err-count.result c.from_residual-in_err-count.ensures.1 in
    rw (end.1, end.2) (not_opened c.args.limit _ _ (reads_fault c.loop-room.invariant.so_far.step c.in_err-count.ensures.step))

pub returns-in_err-count-clause-fault : goal.returns-in_err-count-clause-fault
returns-in_err-count-clause-fault g c _ = ⊎_elim
    (λ rose. inl (rose_later c.loop-room.invariant.later rose))
    (λ closed. absurd (is_open _ c.loop-room.invariant.so_far.step closed))
    c.in_err-count.ensures.cause.failed

pub returns-then-count-eq0-clause-came : goal.returns-then-count-eq0-clause-came
returns-then-count-eq0-clause-came g c =
    rw c.ended.ensures (all_came c.loop-room.invariant.so_far c.read.new.into c.in_ok-count.count c.in_ok-count.ensures.step
    c.if-count-eq0.true (omega (arith, c.loop-room.invariant.room)) (omega (arith, c.ranges.limit)) c.finish.result _ c.finish.ensures.answers_all c.finish.ensures.takes_all)

pub returns-then-count-eq0-clause-fault : goal.returns-then-count-eq0-clause-fault
returns-then-count-eq0-clause-fault g c = rw c.ended.ensures (λ is. absurd (never_fault c.finish.result is))

pub returns-then-count-left-clause-came : goal.returns-then-count-left-clause-came
returns-then-count-left-clause-came g c =
    too_much_came c.loop-room.invariant.so_far c.read.new.into c.in_ok-count.count c.in_ok-count.ensures.step
    (omega (arith, c.loop-room.invariant.room)) (omega (arith, c.in_ok-count.ensures.within)) (omega arith) _

pub returns-then-eq-clause-came : goal.returns-then-eq-clause-came
returns-then-eq-clause-came g c =
    no_memory c.loop-room.invariant.so_far c.read.new.into c.in_ok-count.count c.in_ok-count.ensures.step
    (omega (arith, c.loop-room.invariant.room)) _

pub loop-room-preserved : goal.loop-room-preserved
loop-room-preserved g c = record {
  so_far = more_came c.loop-room.invariant.so_far c.read.new.into c.in_ok-count.count c.in_ok-count.ensures.step
      (omega (arith, c.loop-room.invariant.room)) (omega (arith, c.in_ok-count.ensures.within)) (omega arith) c.feed.new.self _ c.feed.ensures.read;
  room = omega arith;
  later = omega (arith, c.in_ok-count.ensures.cause.later);
  writes_stay = c.read.ensures.writes_stay ∙ c.loop-room.invariant.writes_stay;
  says_stay = c.read.ensures.says_stay ∙ c.loop-room.invariant.says_stay;
}
