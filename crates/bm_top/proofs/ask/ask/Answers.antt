use Rattle.std.proofs.Common.{[], ◌∷◌, Err, ap, refl}
use Rattle.bm_world.proofs.Steps.{Step-then, Step-weaken}
use Rattle.bm_top.specs.Standard.{IsAnswerOrRefusal, IsDecidedBy, IsDecidedByData}
use Rattle.bm_top.proofs.StepsDone.{Ends-reading, Ends-unread, HasReason-unread, HasReason-later, Moves-more, Moves-unread}
use Rattle.bm_top.proofs.ask.ask.Goals as goal

pub ask_of_data-requires : goal.ask_of_data-requires
ask_of_data-requires g c = let came = c.in-Ok.ensures.came in (came.bytes, came.read)

pub returns-in-Ok-clause-step : goal.returns-in-Ok-clause-step
returns-in-Ok-clause-step g c =
    let came = c.in-Ok.ensures.came in
    Step-then came.step c.ask_of_data.ensures.step (λ m k n reads ended.
    Ends-reading c.args.data.now (c.args.query.now ∷ []) 536870912
    (λ files bytes. IsDecidedBy files c.args.query.now 1048576 (λ text. IsDecidedByData bytes (λ graph _. IsAnswerOrRefusal c.args.form text graph))) m k n came.bytes c.ask_of_data.result reads came.within (ended came.bytes came.read))

pub returns-in-Ok-clause-reason : goal.returns-in-Ok-clause-reason
returns-in-Ok-clause-reason g c =
    let came = c.in-Ok.ensures.came in
    HasReason-later c.args.data.now (c.args.query.now ∷ []) 536870912
    (λ files bytes. IsDecidedBy files c.args.query.now 1048576 (λ text. IsDecidedByData bytes (λ graph _. IsAnswerOrRefusal c.args.form text graph))) _ _ _ _ _ came.bytes c.ask_of_data.result
    c.in-Ok.ensures.later c.in-Ok.ensures.writes_stay c.in-Ok.ensures.says_stay came.within (Step-weaken came.step (λ m n whole. whole)) (c.ask_of_data.ensures.reason came.bytes came.read)

pub returns-in-Ok-clause-moves : goal.returns-in-Ok-clause-moves
returns-in-Ok-clause-moves g c =
    let came = c.in-Ok.ensures.came in
    Step-then came.step c.ask_of_data.ensures.moves (λ m k n reads moves.
    Moves-more c.args.data.now (c.args.query.now ∷ []) came.bytes m k n reads moves)

pub returns-in-Err-clause-step : goal.returns-in-Err-clause-step
returns-in-Err-clause-step g c =
    Step-weaken c.in-Err.ensures.came.step (λ m n reads. rw c.read_ending.ensures
    (Ends-unread c.args.data.now (c.args.query.now ∷ []) 536870912
    (λ files bytes. IsDecidedBy files c.args.query.now 1048576 (λ text. IsDecidedByData bytes (λ graph _. IsAnswerOrRefusal c.args.form text graph))) m n c.in-Err.end c.args.data refl reads))

pub returns-in-Err-clause-reason : goal.returns-in-Err-clause-reason
returns-in-Err-clause-reason g c =
    rw c.read_ending.ensures
    (HasReason-unread c.args.data.now (c.args.query.now ∷ []) 536870912
    (λ files bytes. IsDecidedBy files c.args.query.now 1048576 (λ text. IsDecidedByData bytes (λ graph _. IsAnswerOrRefusal c.args.form text graph))) _ _ _ c.in-Err.end c.args.data refl
    c.in-Err.ensures.later c.in-Err.ensures.writes_stay c.in-Err.ensures.says_stay (λ is. c.in-Err.ensures.fault (ap Err is)))

pub returns-in-Err-clause-moves : goal.returns-in-Err-clause-moves
returns-in-Err-clause-moves g c =
    Step-weaken c.in-Err.ensures.came.step (λ m n reads. Moves-unread c.args.data.now (c.args.query.now ∷ []) 536870912 c.in-Err.end m n reads)
