use Rattle.bm_world.proofs.Steps.{Step-stay, Step-weaken}
use Rattle.bm_top.specs.Standard.{IsStored}
use Rattle.bm_top.proofs.StepsDone.{EndsSo-undecided}
use Rattle.bm_top.proofs.Storing.{Says-no_index, is_stored}
use Rattle.bm_top.proofs.load.store_data.Goals as goal

pub returns-in-Ok-clause-step : goal.returns-in-Ok-clause-step
returns-in-Ok-clause-step g c =
    Step-weaken c.write_index.ensures.step (λ m n ended bytes read verdict is.
    rw (is_stored bytes c.args.index.now c.in-Ok.made verdict (c.in-Ok.ensures bytes read) is) ended)

pub returns-in-Err-clause-step : goal.returns-in-Err-clause-step
returns-in-Err-clause-step g c =
    Step-stay (λ m bytes read verdict is. rw c.undecided_ending.ensures (EndsSo-undecided c.in-Err.undecided verdict m
    (Says-no_index bytes (IsStored c.args.index.now) c.in-Err.undecided verdict (c.in-Err.ensures bytes read) is)))
