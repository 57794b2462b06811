use Rattle.std.proofs.Common.{◌++◌, ◌∙◌, ap, map}
use Rattle.std.specs.Prelude.{string_bytes}
use Rattle.std.specs.Char.{to_ascii_lowercase}
use Rattle.std.specs.Str.{chars, encode_utf8_all}
use Rattle.bm_term.specs.Canonical.{canonical_text}
use Rattle.rdf_text.specs.scanning.Text.{after_first}
use Rattle.query_tokens.specs.Token.{shown}
use Rattle.query_values.specs.reading.Values.{lexical_of, tag_of, plain_literal, tagged_literal}
use Rattle.bm_term.proofs.WrittenTerms.{tagged_bytes}
use Rattle.query_values.proofs.TermLaws.{is_canonical}
use Rattle.query_values.proofs.TokenLaws.{lexical_characters, tag_of-lower}
use Rattle.query_values.proofs.terms.tagged_term.Goals as goal

pub from_canonical-requires : goal.from_canonical-requires
unfolding tag_of
from_canonical-requires c =
    rw c.into_bytes.ensures.value
    (is_canonical (tagged_literal (shown c.args.string) (shown c.args.tag)) (string_bytes c.push_lower.new.out)
    (lexical_characters (shown c.args.string), tag_of-lower (shown c.args.tag) c.requires.tag c.requires.kind)
    (tagged_bytes (lexical_of (shown c.args.string)) (tag_of (shown c.args.tag)) (string_bytes c.push_quoted.new.out) (string_bytes c.push.new.self)
    (string_bytes c.push_lower.new.out)
    (c.in_ok-push_quoted.ensures ∙ ap (λ xs. xs ++ canonical_text (plain_literal (shown c.args.string))) c.new-text.ensures.bytes)
    c.in_ok-push.ensures.bytes
    (c.in_ok-push_lower.ensures.ok ∙ ap (λ text. string_bytes c.push.new.self ++ encode_utf8_all (map to_ascii_lowercase text)) (c.after_first.ensures ∙ ap (λ text. after_first (chars text)) c.text_of.ensures))))

pub returns : goal.returns
unfolding tag_of
returns c =
    rw (c.from_canonical.ensures, c.into_bytes.ensures.value)
    (tagged_bytes (lexical_of (shown c.args.string)) (tag_of (shown c.args.tag)) (string_bytes c.push_quoted.new.out) (string_bytes c.push.new.self)
    (string_bytes c.push_lower.new.out)
    (c.in_ok-push_quoted.ensures ∙ ap (λ xs. xs ++ canonical_text (plain_literal (shown c.args.string))) c.new-text.ensures.bytes)
    c.in_ok-push.ensures.bytes
    (c.in_ok-push_lower.ensures.ok ∙ ap (λ text. string_bytes c.push.new.self ++ encode_utf8_all (map to_ascii_lowercase text)) (c.after_first.ensures ∙ ap (λ text. after_first (chars text)) c.text_of.ensures)))
