-- Worked examples of what tokens stand for.
use Rattle.std.proofs.Common.{◌≡◌, ℕ, refl, List, [], ◌∷◌}
use Rattle.std.specs.Prelude.{codes}
use Rattle.rdf_text.specs.Classes.{is_scalar, is_digit, is_hex, is_irichar}
use Rattle.bm_term.specs.Canonical.{literal_of, plain, xsd_string, canonical_chars}
use Rattle.rdf_text.specs.Spelling.{escape_letter, echar_value}
use Rattle.rdf_text.specs.Marks.{line_feed}
use Rattle.rdf_text.specs.scanning.Text.{after_run}
use Rattle.rdf_escapes.specs.Escapes.{hex_value}
use Rattle.rdf_escapes.specs.scanning.Pieces.{pieces}
use Rattle.rdf_escapes.specs.Strings.{is_string_char}
use Rattle.rdf_escapes.specs.scanning.Escapes.{hex_digit, four_digits, uchar_number, scan_uchar, scan_escape}
use Rattle.rdf_escapes.specs.scanning.Iris.{escaped_irichar, iri_piece}
use Rattle.rdf_escapes.specs.scanning.Strings.{string_piece}
use Rattle.query_tokens.specs.declared.token.TokenKind.{TokenKind}
use Rattle.query_tokens.specs.declared.token.TokenKind.TheVariants.{Iri, Prefix, Prefixed, Variable, Quoted, Tag, Decimal, Word}
use Rattle.query_tokens.specs.Token.{Lexeme}
use Rattle.query_values.specs.Literals.{xsd_boolean}
use Rattle.query_values.specs.reading.Values.{is_no_colon, is_no_backslash, iri_of, prefix_of, local_of, lexical_of, tag_of, name_of, number_type, number_literal, boolean_literal}
use Rattle.query_values.proofs.TokenLaws.{ascii_chars}

abbrev pub token : TokenKind → List ℕ → Lexeme
token kind text = record { kind = kind; text = text; at = 0 }

an_escape_in_an_iri : iri_of (token Iri (codes "<a:\\u0062>")) ≡ codes "a:b"
unfolding iri_of pieces iri_piece escaped_irichar scan_uchar uchar_number four_digits hex_digit hex_value is_digit is_hex is_scalar is_irichar
an_escape_in_an_iri = rw (ascii_chars (codes "<a:\\u0062>") refl) refl

a_prefix : prefix_of (token Prefixed (codes "ex:a:b")) ≡ codes "ex"
unfolding prefix_of after_run is_no_colon
a_prefix = rw (ascii_chars (codes "ex:a:b") refl) refl

no_prefix : prefix_of (token Prefix (codes ":")) ≡ []
unfolding prefix_of after_run is_no_colon
no_prefix = rw (ascii_chars (codes ":") refl) refl

-- the backslash goes, and %41 stays
a_local_name : local_of (token Prefixed (codes "ex:a\\-b:%41")) ≡ codes "a-b:%41"
unfolding local_of after_run is_no_colon is_no_backslash
a_local_name = rw (ascii_chars (codes "ex:a\\-b:%41") refl) refl

a_string : lexical_of (token Quoted (codes "'a\\n\"'")) ≡ 0x61 ∷ line_feed ∷ 0x22 ∷ []
unfolding lexical_of pieces string_piece scan_escape echar_value is_string_char is_scalar
a_string = rw (ascii_chars (codes "'a\\n\"'") refl) refl

a_tag : tag_of (token Tag (codes "@en-GB")) ≡ codes "en-gb"
unfolding tag_of
a_tag = rw (ascii_chars (codes "@en-GB") refl) refl

both_marks : name_of (token Variable (codes "?x")) ≡ name_of (token Variable (codes "$x"))
unfolding name_of
both_marks = refl

-- the long form of a literal of xsd:string is the plain one
a_plain_literal : literal_of (codes "a") xsd_string ≡ plain (codes "a")
unfolding literal_of xsd_string
a_plain_literal = refl

a_decimal : canonical_chars (number_literal (token Decimal (codes "-.50"))) ≡ codes "\"-.50\"^^<http://www.w3.org/2001/XMLSchema#decimal>"
unfolding number_type escape_letter
a_decimal = rw (ascii_chars (codes "-.50") refl) refl

true_in_upper_case : canonical_chars (boolean_literal (token Word (codes "TRUE"))) ≡ codes "\"true\"^^<http://www.w3.org/2001/XMLSchema#boolean>"
unfolding xsd_boolean escape_letter
true_in_upper_case = rw (ascii_chars (codes "TRUE") refl) refl
