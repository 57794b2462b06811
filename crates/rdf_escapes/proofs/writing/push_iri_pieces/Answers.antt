use Rattle.std.proofs.Common.{◌++◌}
use Rattle.std.specs.Prelude.{string_bytes}
use Rattle.std.specs.Str.{chars, encode_utf8_all}
use Rattle.rdf_escapes.specs.scanning.Pieces.{values}
use Rattle.rdf_escapes.specs.scanning.Iris.{iri_piece}
use Rattle.rdf_escapes.proofs.WritingLaws.{iri_step, iri_end}
use Rattle.rdf_escapes.proofs.writing.push_iri_pieces.Goals as goal

pub loop-c-preserved : goal.loop-c-preserved
loop-c-preserved c = (
  c.in-Some.ensures.utf8,
  iri_step (string_bytes c.loop-c.out) (string_bytes c.push.new.self) (chars c.loop-c.rest.now) (chars c.in-Some.after.now)
      (string_bytes c.args.out.now ++ encode_utf8_all (values iri_piece (chars c.args.text.now))) c.in-Some.c
      c.in_ok-push.ensures.bytes c.in-Some.ensures.chars c.loop-c.invariant.1,
)

pub returns-clause-ok : goal.returns-clause-ok
returns-clause-ok c =
    iri_end (string_bytes c.loop-c.out) (chars c.loop-c.rest.now)
    (string_bytes c.args.out.now ++ encode_utf8_all (values iri_piece (chars c.args.text.now)))
    c.in_default.ensures.chars c.loop-c.invariant.1
