use Rattle.bm_world.proofs.Steps.{Step-weaken}
use Rattle.bm_top.proofs.steps.perform.Goals as goal

pub returns-in-Some-clause-step : goal.returns-in-Some-clause-step
returns-in-Some-clause-step g c = Step-weaken c.perform_command.ensures.step (λ m n ended. rw c.in-Some.is ended)
