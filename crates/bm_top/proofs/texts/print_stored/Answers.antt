use Rattle.bm_top.proofs.texts.print_stored.Goals as goal

pub returns-clause-step : goal.returns-clause-step
returns-clause-step g c =
    rw (c.as_bytes.ensures.value, c.as_bytes-2.ensures.value, c.format.ensures.text, c.format-2.ensures.text) at c.print_pieces.ensures.step
