use Rattle.std.proofs.Common.{◌≡◌, false, bytes_eq, ◌++◌, ◌∙◌, sym, ap}
use Rattle.std.specs.Prelude.{string_bytes}
use Rattle.std.specs.Str.{chars}
use Rattle.bm_term.specs.Canonical.{literal_of, typed, xsd_string, canonical_text}
use Rattle.query_tokens.specs.Token.{shown}
use Rattle.query_values.specs.reading.Values.{lexical_of, plain_literal}
use Rattle.bm_term.proofs.WrittenTerms.{typed_bytes}
use Rattle.query_values.proofs.TermLaws.{is_canonical, other_text}
use Rattle.query_values.proofs.TokenLaws.{lexical_characters}
use Rattle.query_values.proofs.terms.typed_term.Goals as goal

pub from_canonical-requires : goal.from_canonical-requires
from_canonical-requires c =
    let other : bytes_eq (chars c.args.datatype.now) xsd_string ≡ false = sym c.is_xsd_string.ensures ∙ c.if-is_xsd_string.false in
    rw c.into_bytes.ensures.value
    (is_canonical (typed (lexical_of (shown c.args.string)) (chars c.args.datatype.now)) (string_bytes c.push_datatype.new.out)
    (lexical_characters (shown c.args.string), c.requires.datatype, other_text (chars c.args.datatype.now) xsd_string other)
    (typed_bytes (lexical_of (shown c.args.string)) (chars c.args.datatype.now) (string_bytes c.push_quoted.new.out) (string_bytes c.push_datatype.new.out)
    (c.in_ok-push_quoted.ensures ∙ ap (λ xs. xs ++ canonical_text (plain_literal (shown c.args.string))) c.new-text.ensures.bytes)
    c.in_ok-push_datatype.ensures))

pub returns : goal.returns
unfolding literal_of
returns c =
    let other : bytes_eq (chars c.args.datatype.now) xsd_string ≡ false = sym c.is_xsd_string.ensures ∙ c.if-is_xsd_string.false in
    rw (c.from_canonical.ensures, c.into_bytes.ensures.value, other)
    (typed_bytes (lexical_of (shown c.args.string)) (chars c.args.datatype.now) (string_bytes c.push_quoted.new.out) (string_bytes c.push_datatype.new.out)
    (c.in_ok-push_quoted.ensures ∙ ap (λ xs. xs ++ canonical_text (plain_literal (shown c.args.string))) c.new-text.ensures.bytes)
    c.in_ok-push_datatype.ensures)
