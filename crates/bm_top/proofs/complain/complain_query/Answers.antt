use Rattle.bm_top.proofs.complain.complain_query.Goals as goal

pub returns-in-NotWellDesigned-clause-step : goal.returns-in-NotWellDesigned-clause-step
returns-in-NotWellDesigned-clause-step g c =
    rw c.in-NotWellDesigned.is
    (rw (c.as_bytes.ensures.value, c.as_bytes-in-NotWellDesigned.ensures.value, c.format.ensures.text) at c.complain_pieces.ensures.step)

pub returns-in-ThreePlaces-clause-step : goal.returns-in-ThreePlaces-clause-step
returns-in-ThreePlaces-clause-step g c =
    rw c.in-ThreePlaces.is (rw (c.as_bytes-in-ThreePlaces.ensures.value, c.format-in-ThreePlaces.ensures.text) at c.complain_pieces-in-ThreePlaces.ensures.step)

pub returns-in-CrossPlace-clause-step : goal.returns-in-CrossPlace-clause-step
returns-in-CrossPlace-clause-step g c =
    rw c.in-CrossPlace.is (rw c.as_bytes-in-CrossPlace.ensures.value at c.complain_pieces-in-CrossPlace.ensures.step)
