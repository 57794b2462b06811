use Rattle.std.proofs.Common.{arith, refl, ◌∙◌, ⊎_elim, inl}
use Rattle.std.proofs.lemmas.Result.{err_from_is_err_and}
use Rattle.bm_world.proofs.WholeFile.{reads_none, reads_more, reads_all, reads_too_long, reads_no_memory, reads_not_opened, reads_fault, is_open}
use Rattle.bm_world.proofs.Steps.{Step-weaken, rose_later}
use Rattle.bm_world.proofs.reading.read_all.Goals as goal

pub returns-in_err-open-clause-step : goal.returns-in_err-open-clause-step
returns-in_err-open-clause-step g c =
    let end = err_from_is_err_and c.from_residual.result c.from_residual.ensures.1 in
    rw (end.1, end.2) (reads_not_opened c.in_err-open.ensures.step)

pub returns-in_err-room-clause-step : goal.returns-in_err-room-clause-step
returns-in_err-room-clause-step g c =
    let end = err_from_is_err_and c.from_residual-in_err-room.result c.from_residual-in_err-room.ensures.1 in
    rw (end.1, end.2) (reads_no_memory (reads_none c.args.limit _ refl c.in_ok-open.ensures.step))

pub loop-bytes-init : goal.loop-bytes-init
loop-bytes-init g c = record {
  so_far = reads_none c.args.limit c.new-bytes.result.items c.new-bytes.ensures.items c.in_ok-open.ensures.step;
  within = omega (arith, c.new-bytes.ensures.len);
  room = omega (arith, c.in_ok-room.ensures.len, c.as_mut_slice-buffer.ensures.len);
  later = omega (arith, c.in_ok-open.ensures.cause.later);
  writes_stay = c.open.ensures.writes_stay;
  says_stay = c.open.ensures.says_stay;
}

pub returns-in_err-count-clause-step : goal.returns-in_err-count-clause-step
returns-in_err-count-clause-step g c =
    let end = err_from_is_err_and c.from_residual-in_err-count.result c.from_residual-in_err-count.ensures.1 in
    rw (end.1, end.2) (reads_fault c.loop-bytes.invariant.so_far c.in_err-count.ensures.step)

pub returns-in_err-count-clause-fault : goal.returns-in_err-count-clause-fault
returns-in_err-count-clause-fault g c _ = ⊎_elim
    (λ rose. inl (rose_later c.loop-bytes.invariant.later rose))
    (λ closed. absurd (is_open _ c.loop-bytes.invariant.so_far closed))
    c.in_err-count.ensures.cause.failed

pub returns-then-count-eq0-clause-step : goal.returns-then-count-eq0-clause-step
returns-then-count-eq0-clause-step g c =
    Step-weaken (reads_all c.loop-bytes.bytes.items c.if-count-eq0.true (omega arith) c.loop-bytes.invariant.so_far c.in_ok-count.ensures.step) (λ m n whole. whole)

pub returns-in_err-extend_from_slice-clause-step :
    goal.returns-in_err-extend_from_slice-clause-step
returns-in_err-extend_from_slice-clause-step g c =
    let end = err_from_is_err_and c.from_residual-in_err-extend_from_slice.result c.from_residual-in_err-extend_from_slice.ensures.1 in
    let so_far = reads_more _ refl (omega (arith, c.loop-bytes.bytes.ok.0)) (omega arith) c.loop-bytes.invariant.so_far c.in_ok-count.ensures.step in
    rw (end.1, end.2) (reads_no_memory so_far)

pub returns-then-len-limit-clause-step : goal.returns-then-len-limit-clause-step
returns-then-len-limit-clause-step g c =
    reads_too_long (omega (arith, c.extend_from_slice.new.self.ok.0))
    (reads_more c.extend_from_slice.new.self.items c.in_ok-extend_from_slice.ensures.items (omega (arith, c.loop-bytes.bytes.ok.0)) (omega arith) c.loop-bytes.invariant.so_far c.in_ok-count.ensures.step)

pub loop-bytes-preserved : goal.loop-bytes-preserved
loop-bytes-preserved g c = record {
  so_far = reads_more _ c.in_ok-extend_from_slice.ensures.items (omega (arith, c.loop-bytes.bytes.ok.0)) (omega arith) c.loop-bytes.invariant.so_far c.in_ok-count.ensures.step;
  within = omega arith;
  room = omega arith;
  later = omega (arith, c.in_ok-count.ensures.cause.later);
  writes_stay = c.read.ensures.writes_stay ∙ c.loop-bytes.invariant.writes_stay;
  says_stay = c.read.ensures.says_stay ∙ c.loop-bytes.invariant.says_stay;
}
