use Rattle.bm_top.proofs.complain.complain_refusal.Goals as goal

pub returns-in-Usage-clause-step : goal.returns-in-Usage-clause-step
returns-in-Usage-clause-step g c = rw c.in-Usage.is c.complain_all.ensures.step

pub returns-in-TooLong-clause-step : goal.returns-in-TooLong-clause-step
returns-in-TooLong-clause-step g c =
    rw c.in-TooLong.is
    (rw (c.as_bytes-in-TooLong.ensures.value, c.as_bytes-in-TooLong-2.ensures.value, c.format-in-TooLong.ensures.text) at c.complain_pieces-in-TooLong.ensures.step)

pub returns-in-TooManyTriples-clause-step : goal.returns-in-TooManyTriples-clause-step
returns-in-TooManyTriples-clause-step g c = rw c.in-TooManyTriples.is c.complain_all-in-TooManyTriples.ensures.step

pub returns-in-ImageTooLong-clause-step : goal.returns-in-ImageTooLong-clause-step
returns-in-ImageTooLong-clause-step g c = rw c.in-ImageTooLong.is c.complain_all-in-ImageTooLong.ensures.step
