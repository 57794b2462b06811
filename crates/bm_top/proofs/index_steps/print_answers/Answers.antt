use Rattle.std.proofs.Common.{[]}
use Rattle.bm_world.proofs.Steps.{Step-stay, Step-weaken}
use Rattle.bm_top.proofs.StepsDone.{EndsSo-undecided, EndsSo-written, HasReason-undecided, Moves-written}
use Rattle.bm_top.proofs.index_steps.print_answers.Goals as goal

pub returns-in-Ok-clause-step : goal.returns-in-Ok-clause-step
returns-in-Ok-clause-step g c =
    Step-weaken c.write_rows.ensures.step (λ m n printed graph numbers verdict is.
    rw c.write_ending.ensures (EndsSo-written verdict _ c.write_rows.result m n (c.in-Ok.ensures graph c.args.form verdict numbers is) printed))

pub returns-in-Ok-clause-moves : goal.returns-in-Ok-clause-moves
returns-in-Ok-clause-moves g c = Step-weaken c.write_rows.ensures.step (λ m n printed. Moves-written [] _ c.write_rows.result m n printed)

pub returns-in-Err-clause-step : goal.returns-in-Err-clause-step
returns-in-Err-clause-step g c =
    Step-stay (λ m graph numbers verdict is. rw c.undecided_ending.ensures (EndsSo-undecided c.in-Err.undecided verdict m (c.in-Err.ensures graph c.args.form verdict numbers is)))

pub returns-in-Err-clause-reason : goal.returns-in-Err-clause-reason
returns-in-Err-clause-reason g c = rw c.undecided_ending.ensures (HasReason-undecided _ _ _ c.in-Err.undecided)
