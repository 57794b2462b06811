use Rattle.std.specs.Prelude.{string_bytes}
use Rattle.std.specs.Str.{chars}
use Rattle.bm_term.specs.Canonical.{iri}
use Rattle.rdf_text.specs.Marks.{greater_than, less_than}
use Rattle.nt_read.specs.declared.found.FoundText.TheVariants.{Raw}
use Rattle.nt_read.specs.scanning.Found.{iri_of}
use Rattle.rdf_escapes.specs.scanning.Pieces.{values}
use Rattle.rdf_escapes.specs.scanning.Iris.{iri_piece}
use Rattle.bm_term.proofs.WrittenTerms.{pushed_marked}
use Rattle.nt_read.proofs.WritingLaws.{raw_bytes, pushed_raw}
use Rattle.nt_read.proofs.writing.push_iri.Goals as goal

pub returns-in-Raw : goal.returns-in-Raw
returns-in-Raw c =
    let term = iri (iri_of (Raw c.in-Raw.text)) in
    rw c.in-Raw.is
    (pushed_raw c.push_str.result (string_bytes c.args.out.now) (string_bytes c.push_str.new.self) c.in-Raw.text.now term
    c.push_str.ensures.bytes (raw_bytes c.in-Raw.text.now term (rw c.in-Raw.is at c.requires)))

pub returns-in_ok-push_iri_pieces-in-Escaped : goal.returns-in_ok-push_iri_pieces-in-Escaped
unfolding iri_of
returns-in_ok-push_iri_pieces-in-Escaped c =
    rw c.in-Escaped.is
    (pushed_marked c.push-in-Escaped.result (string_bytes c.args.out.now) (string_bytes c.push.new.self) (string_bytes c.push_iri_pieces.new.out)
    (string_bytes c.push-in-Escaped.new.self) (values iri_piece (chars c.in-Escaped.body.now)) less_than greater_than
    c.in_ok-push-in-Escaped.ensures.bytes c.in_ok-push_iri_pieces-in-Escaped.ensures.ok c.push-in-Escaped.ensures.bytes)
