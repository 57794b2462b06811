use Rattle.bm_world.proofs.Steps.{Step-weaken}
use Rattle.bm_top.proofs.steps.perform_command.Goals as goal

pub returns-in-Ask-clause-step : goal.returns-in-Ask-clause-step
returns-in-Ask-clause-step g c = Step-weaken c.ask.ensures.step (λ m n ended. rw c.in-Ask.is ended)

pub returns-in-Load-clause-step : goal.returns-in-Load-clause-step
returns-in-Load-clause-step g c = Step-weaken c.load.ensures.step (λ m n ended. rw c.in-Load.is ended)

pub returns-in-Query-clause-step : goal.returns-in-Query-clause-step
returns-in-Query-clause-step g c = Step-weaken c.query.ensures.step (λ m n ended. rw c.in-Query.is ended)

pub returns-in-Check-clause-step : goal.returns-in-Check-clause-step
returns-in-Check-clause-step g c = Step-weaken c.check.ensures.step (λ m n ended. rw c.in-Check.is ended)
