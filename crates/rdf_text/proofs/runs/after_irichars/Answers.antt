use Rattle.rdf_text.proofs.ByteRuns.{iri_bytes-ends}
use Rattle.rdf_text.proofs.runs.after_irichars.Goals as goal

pub end_of-requires-clause-ends : goal.end_of-requires-clause-ends
end_of-requires-clause-ends c =
    rw (c.after_byte_run.ensures, c.as_bytes.ensures.value) (iri_bytes-ends c.args.text.now c.utf8.text).rest

pub end_of-requires-clause-utf8 : goal.end_of-requires-clause-utf8
end_of-requires-clause-utf8 c =
    rw (c.after_byte_run.ensures, c.as_bytes.ensures.value) (iri_bytes-ends c.args.text.now c.utf8.text).utf8

pub returns : goal.returns
returns c =
    rw (c.end_of.ensures, c.after_byte_run.ensures, c.as_bytes.ensures.value) (iri_bytes-ends c.args.text.now c.utf8.text).characters
