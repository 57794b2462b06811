use Rattle.result_write.proofs.BufferLaws.{hands_some}
use Rattle.result_write.proofs.pieces.push_and_hand_on.Goals as goal

pub returns-in-Err-hand_on-clause-step : goal.returns-in-Err-hand_on-clause-step
returns-in-Err-hand_on-clause-step g c = hands_some _ _ c.in-Ok.ensures c.in-Err-hand_on.ensures.step
