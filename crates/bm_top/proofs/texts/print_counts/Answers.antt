use Rattle.bm_top.proofs.texts.print_counts.Goals as goal

pub returns-clause-step : goal.returns-clause-step
returns-clause-step g c =
    rw (
      c.as_bytes.ensures.value,
      c.as_bytes-2.ensures.value,
      c.as_bytes-3.ensures.value,
      c.as_bytes-4.ensures.value,
      c.as_bytes-5.ensures.value,
      c.as_bytes-6.ensures.value,
      c.format.ensures.text,
      c.format-2.ensures.text,
      c.format-3.ensures.text,
      c.format-4.ensures.text,
      c.format-5.ensures.text,
      c.format-6.ensures.text,
    ) at c.print_pieces.ensures.step
