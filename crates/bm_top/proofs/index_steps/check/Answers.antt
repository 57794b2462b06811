use Rattle.std.proofs.Common.{◌≤◌, [], Err, length, ap, refl, arith}
use Rattle.bm_world.proofs.Steps.{Step-then, Step-weaken}
use Rattle.bm_top.specs.Standard.{IsCounted, IsDecidedByIndex}
use Rattle.bm_top.proofs.StepsDone.{Ends-reading, Ends-unread, HasReason-unread, HasReason-later, Moves-more, Moves-unread}
use Rattle.bm_top.proofs.index_steps.check.Goals as goal

pub returns-in-Ok-clause-step : goal.returns-in-Ok-clause-step
returns-in-Ok-clause-step g c =
    let small : length c.in-Ok.bytes.items ≤ 4294967295 = omega (arith, c.in-Ok.bytes.ok, c.in-Ok.ensures.within) in
    Step-then c.in-Ok.ensures.step c.check_bytes.ensures.step (λ m k n reads ended.
    Ends-reading c.args.index.now [] 4294967295
    (λ files bytes. IsDecidedByIndex bytes IsCounted) m k n c.in-Ok.bytes.items c.check_bytes.result reads small (rw c.deref.ensures.value at ended))

pub returns-in-Ok-clause-reason : goal.returns-in-Ok-clause-reason
returns-in-Ok-clause-reason g c =
    let small : length c.in-Ok.bytes.items ≤ 4294967295 = omega (arith, c.in-Ok.bytes.ok, c.in-Ok.ensures.within) in
    HasReason-later c.args.index.now [] 4294967295
    (λ files bytes. IsDecidedByIndex bytes IsCounted) _ _ _ _ _ c.in-Ok.bytes.items c.check_bytes.result
    c.in-Ok.ensures.later c.in-Ok.ensures.writes_stay c.in-Ok.ensures.says_stay small c.in-Ok.ensures.step (rw c.deref.ensures.value at c.check_bytes.ensures.reason)

pub returns-in-Ok-clause-moves : goal.returns-in-Ok-clause-moves
returns-in-Ok-clause-moves g c =
    Step-then c.in-Ok.ensures.step c.check_bytes.ensures.moves (λ m k n reads moves.
    Moves-more c.args.index.now [] c.in-Ok.bytes.items m k n reads moves)

pub returns-in-Err-clause-step : goal.returns-in-Err-clause-step
returns-in-Err-clause-step g c =
    Step-weaken c.in-Err.ensures.step (λ m n reads. rw c.read_ending.ensures
    (Ends-unread c.args.index.now [] 4294967295
    (λ files bytes. IsDecidedByIndex bytes IsCounted) m n c.in-Err.end c.args.index refl reads))

pub returns-in-Err-clause-reason : goal.returns-in-Err-clause-reason
returns-in-Err-clause-reason g c =
    rw c.read_ending.ensures
    (HasReason-unread c.args.index.now [] 4294967295
    (λ files bytes. IsDecidedByIndex bytes IsCounted) _ _ _ c.in-Err.end c.args.index refl
    c.in-Err.ensures.later c.in-Err.ensures.writes_stay c.in-Err.ensures.says_stay (λ is. c.in-Err.ensures.fault (ap Err is)))

pub returns-in-Err-clause-moves : goal.returns-in-Err-clause-moves
returns-in-Err-clause-moves g c =
    Step-weaken c.in-Err.ensures.step (λ m n reads. Moves-unread c.args.index.now [] 4294967295 c.in-Err.end m n reads)
