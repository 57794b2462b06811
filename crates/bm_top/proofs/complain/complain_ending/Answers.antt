use Rattle.bm_top.proofs.complain.complain_ending.Goals as goal

pub returns-in-ReadFault-clause-step : goal.returns-in-ReadFault-clause-step
returns-in-ReadFault-clause-step g c = rw c.in-ReadFault.is (rw c.as_bytes.ensures.value at c.complain_pieces.ensures.step)
