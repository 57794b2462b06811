use Rattle.std.proofs.Common.{refl}
use Rattle.bm_world.proofs.Steps.{Step-stay, Step-weaken}
use Rattle.bm_top.specs.Standard.{IsAnswerOrRefusal}
use Rattle.bm_top.proofs.IndexRead.{Ends-opened, opened_as}
use Rattle.bm_top.proofs.StepsDone.{HasReason-any}
use Rattle.bm_top.proofs.Verdicts.{damaged_then}
use Rattle.bm_top.proofs.index_steps.print_opened.Goals as goal

pub returns-in-Ok-clause-step : goal.returns-in-Ok-clause-step
returns-in-Ok-clause-step g c =
    Step-weaken c.print_answers.ensures.step (λ m n ended.
    Ends-opened c.args.bytes.now c.in-Ok.index (c.open.ensures.opened.0 (rw c.in-Ok.is refl)) (λ graph image. opened_as c.open.result c.in-Ok.index _ c.in-Ok.is (c.open.ensures.image graph image))
    c.args.form c.args.text.now c.print_answers.result m n ended)

pub returns-in-Ok-clause-reason : goal.returns-in-Ok-clause-reason
returns-in-Ok-clause-reason g c = HasReason-any _ _ _ _ _ _ c.print_answers.ensures.reason

pub returns-in-Err-clause-step : goal.returns-in-Err-clause-step
returns-in-Err-clause-step g c =
    Step-stay (λ m verdict is. (damaged_then c.args.bytes.now (IsAnswerOrRefusal c.args.form c.args.text.now) c.in-Err.damaged.part verdict c.in-Err.ensures.damaged is, refl))
