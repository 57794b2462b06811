use Rattle.std.proofs.Common.{◌++◌, ◌∙◌, ap}
use Rattle.std.proofs.lemmas.Str.{chars-append, chars-encodes, scalars-chars}
use Rattle.std.specs.List.{filter}
use Rattle.std.specs.Str.{chars, encode_utf8_all}
use Rattle.rdf_text.specs.scanning.Text.{after_first}
use Rattle.query_values.specs.reading.Values.{from_colon, is_no_backslash, local_of}
use Rattle.query_values.proofs.TermLaws.{some_characters}
use Rattle.query_values.proofs.values.prefixed_iri.Goals as goal

pub returns : goal.returns
unfolding local_of
returns c =
    let name = chars c.args.namespace.now in
    let local = chars c.after_first.result.now in
    let written = filter is_no_backslash local in
    ap chars (c.in_ok-push_without_backslashes.ensures ∙ ap (λ xs. xs ++ encode_utf8_all written) c.in_ok-iri.ensures.ok)
    ∙ chars-append c.args.namespace.now (encode_utf8_all written) c.utf8.namespace
    ∙ ap (λ xs. name ++ xs) (chars-encodes written (some_characters is_no_backslash local (scalars-chars c.after_first.result.now c.after_first.utf8)))
    ∙ ap (λ xs. name ++ filter is_no_backslash xs) (c.after_first.ensures ∙ ap after_first (c.from_colon.ensures ∙ ap (λ text. from_colon (chars text)) c.text_of.ensures))
