use Rattle.std.proofs.Common.{◌++◌, ◌∙◌, ap}
use Rattle.std.proofs.lemmas.Str.{chars-encodes}
use Rattle.std.specs.Str.{chars, encode_utf8_all}
use Rattle.rdf_escapes.specs.scanning.Pieces.{values}
use Rattle.rdf_escapes.specs.scanning.Iris.{iri_piece}
use Rattle.rdf_escapes.proofs.Members.{iri_values-irichars, irichars_are_characters}
use Rattle.rdf_text.specs.scanning.Text.{after_first}
use Rattle.query_values.specs.reading.Values.{iri_of}
use Rattle.query_values.proofs.values.iri.Goals as goal

pub returns : goal.returns
unfolding iri_of
returns c =
    let body = chars c.after_first.result.now in
    ap chars (c.in_ok-push_iri_pieces.ensures.ok ∙ ap (λ xs. xs ++ encode_utf8_all (values iri_piece body)) c.new-iri.ensures.bytes)
    ∙ chars-encodes (values iri_piece body) (irichars_are_characters (values iri_piece body) (iri_values-irichars body))
    ∙ ap (values iri_piece) (c.after_first.ensures ∙ ap (λ text. after_first (chars text)) c.text_of.ensures)
