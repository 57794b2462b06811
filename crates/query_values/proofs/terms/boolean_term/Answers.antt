use Rattle.std.proofs.Common.{◌++◌, ◌≡◌, map, ap, ◌∙◌}
use Rattle.std.proofs.lemmas.Str.{chars-encodes, scalars-chars}
use Rattle.std.specs.Char.{to_ascii_lowercase}
use Rattle.std.specs.Str.{chars, encode_utf8_all}
use Rattle.bm_term.specs.Canonical.{xsd_string}
use Rattle.query_values.specs.Literals.{xsd_boolean}
use Rattle.query_values.proofs.TermLaws.{lower_characters, other_text}
use Rattle.query_values.proofs.TokenLaws.{xsd_boolean-chars, xsd_boolean-irichars, xsd_boolean-other}
use Rattle.query_values.proofs.terms.boolean_term.Goals as goal

pub literal_term-requires-clause-characters : goal.literal_term-requires-clause-characters
unfolding xsd_boolean
literal_term-requires-clause-characters c = rw xsd_boolean-chars xsd_boolean-irichars

pub literal_term-requires-clause-other : goal.literal_term-requires-clause-other
unfolding xsd_boolean
literal_term-requires-clause-other c = rw xsd_boolean-chars (other_text xsd_boolean xsd_string xsd_boolean-other)

pub returns : goal.returns
unfolding xsd_boolean
returns c =
    let text = chars c.text_of.result.now in
    let lower = map to_ascii_lowercase text in
    let lexical : chars c.as_str.result.now ≡ map to_ascii_lowercase (chars c.args.token.text.now) =
    ap chars (c.as_str.ensures.value ∙ c.in_ok-push_lower.ensures.ok ∙ ap (λ xs. xs ++ encode_utf8_all lower) c.new-lexical.ensures.bytes)
    ∙ chars-encodes lower (lower_characters text (scalars-chars c.text_of.result.now c.text_of.utf8))
    ∙ ap (λ xs. map to_ascii_lowercase (chars xs)) c.text_of.ensures in
    rw (lexical, xsd_boolean-chars) at c.literal_term.ensures
