use Rattle.result_write.proofs.BufferLaws.{hands_all, hands_some}
use Rattle.result_write.proofs.pieces.hand_on.Goals as goal

pub returns-in-Ok-clause-step : goal.returns-in-Ok-clause-step
returns-in-Ok-clause-step g c =
    hands_all c.args.text.now.items c.deref.result.now c.clear.new.self.items c.deref.ensures.value c.clear.ensures.items c.in-Ok.ensures.step

pub returns-in-Err-clause-step : goal.returns-in-Err-clause-step
returns-in-Err-clause-step g c =
    hands_some c.args.text.now.items c.deref.result.now c.deref.ensures.value c.in-Err.ensures.step
