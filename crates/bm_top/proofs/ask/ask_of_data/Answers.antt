use Rattle.std.proofs.Common.{◌≤◌, [], Err, length, ap, refl, arith}
use Rattle.bm_world.proofs.Steps.{Step-then, Step-weaken}
use Rattle.bm_top.specs.Standard.{IsAnswerOrRefusal, IsDecidedByData}
use Rattle.bm_top.proofs.StepsDone.{Ends-reading, Ends-unread, HasReason-any, HasReason-unread, HasReason-later, Moves-more, Moves-unread}
use Rattle.bm_top.proofs.ask.ask_of_data.Goals as goal

pub returns-in-Ok-clause-step : goal.returns-in-Ok-clause-step
returns-in-Ok-clause-step g c =
    let small : length c.in-Ok.text.items ≤ 1048576 = omega (arith, c.in-Ok.text.ok, c.in-Ok.ensures.within) in
    Step-then c.in-Ok.ensures.step c.print_decided.ensures.step (λ m k n reads ended bytes read.
    Ends-reading c.args.query.now [] 1048576
    (λ files text. IsDecidedByData bytes (λ graph _. IsAnswerOrRefusal c.args.form text graph)) m k n c.in-Ok.text.items c.print_decided.result reads small ((rw c.deref.ensures.value at ended) bytes read))

pub returns-in-Ok-clause-reason : goal.returns-in-Ok-clause-reason
returns-in-Ok-clause-reason g c bytes read =
    let small : length c.in-Ok.text.items ≤ 1048576 = omega (arith, c.in-Ok.text.ok, c.in-Ok.ensures.within) in
    HasReason-later c.args.query.now [] 1048576
    (λ files text. IsDecidedByData bytes (λ graph _. IsAnswerOrRefusal c.args.form text graph)) _ _ _ _ _ c.in-Ok.text.items c.print_decided.result
    c.in-Ok.ensures.later c.in-Ok.ensures.writes_stay c.in-Ok.ensures.says_stay small c.in-Ok.ensures.step (HasReason-any _ _ _ _ _ _ c.print_decided.ensures.reason)

pub returns-in-Ok-clause-moves : goal.returns-in-Ok-clause-moves
returns-in-Ok-clause-moves g c =
    Step-then c.in-Ok.ensures.step c.print_decided.ensures.moves (λ m k n reads moves.
    Moves-more c.args.query.now [] c.in-Ok.text.items m k n reads moves)

pub returns-in-Err-clause-step : goal.returns-in-Err-clause-step
returns-in-Err-clause-step g c =
    Step-weaken c.in-Err.ensures.step (λ m n reads bytes read. rw c.read_ending.ensures
    (Ends-unread c.args.query.now [] 1048576
    (λ files text. IsDecidedByData bytes (λ graph _. IsAnswerOrRefusal c.args.form text graph)) m n c.in-Err.end c.args.query refl reads))

pub returns-in-Err-clause-reason : goal.returns-in-Err-clause-reason
returns-in-Err-clause-reason g c bytes read =
    rw c.read_ending.ensures
    (HasReason-unread c.args.query.now [] 1048576
    (λ files text. IsDecidedByData bytes (λ graph _. IsAnswerOrRefusal c.args.form text graph)) _ _ _ c.in-Err.end c.args.query refl
    c.in-Err.ensures.later c.in-Err.ensures.writes_stay c.in-Err.ensures.says_stay (λ is. c.in-Err.ensures.fault (ap Err is)))

pub returns-in-Err-clause-moves : goal.returns-in-Err-clause-moves
returns-in-Err-clause-moves g c =
    Step-weaken c.in-Err.ensures.step (λ m n reads. Moves-unread c.args.query.now [] 1048576 c.in-Err.end m n reads)
