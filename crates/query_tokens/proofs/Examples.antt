-- Worked examples of the definitions.
use Rattle.std.proofs.Common.{◌≡◌, false, refl, inl, inr, Some, None, [], ◌∷◌, arith}
use Rattle.std.specs.Prelude.{codes}
use Rattle.rdf_text.specs.Classes.{is_scalar, is_irichar, is_digit, is_pn_chars_base, is_pn_chars_more, is_sparql_pn_chars_u, is_sparql_pn_chars, is_sparql_label_first, is_comment_char}
use Rattle.rdf_text.specs.Spelling.{echar_value}
use Rattle.rdf_text.specs.scanning.Text.{after_run}
use Rattle.rdf_text.specs.scanning.Repetition.{after_pieces}
use Rattle.query_tokens.specs.declared.token.TokenKind.TheVariants.{Integer, Decimal, Word, Quoted, Sign, Quotes}
use Rattle.rdf_escapes.specs.scanning.Pieces.{pieces}
use Rattle.rdf_escapes.specs.Strings.{is_string_char}
use Rattle.rdf_escapes.specs.scanning.Iris.{iri_piece}
use Rattle.rdf_escapes.specs.scanning.Strings.{string_piece}
use Rattle.rdf_escapes.specs.scanning.Escapes.{scan_escape}
use Rattle.query_tokens.specs.scanning.Iris.{after_iri}
use Rattle.query_tokens.specs.scanning.Strings.{after_string}
use Rattle.query_tokens.specs.scanning.Numbers.{after_exponent, scan_after_point, scan_after_digits, scan_number}
use Rattle.query_tokens.specs.PrefixedNames.{SpellsLocal, is_local_escape, is_local_first, is_local_inner}
use Rattle.query_tokens.specs.scanning.PrefixedNames.{after_local_piece, after_dotted_piece, after_local}
use Rattle.query_tokens.specs.Variables.{is_variable_inner}
use Rattle.query_tokens.specs.Signs.{is_sign}
use Rattle.query_tokens.specs.Blanks.{is_white_space, AreBlanks}
use Rattle.query_tokens.specs.scanning.Blanks.{after_blank, after_blanks}
use Rattle.query_tokens.specs.Token.{IsToken}
use Rattle.query_tokens.specs.Tokens.{IsSliceOf}
use Rattle.query_tokens.specs.scanning.Tokens.{scan_sign, scan_marked, scan_token}

-- IRIs
no_space_in_iri : after_iri (codes "a b>") ≡ None
unfolding after_iri pieces iri_piece is_irichar is_scalar
no_space_in_iri = refl

-- strings
string_ends : after_string 34 (codes "a\\\"b\" .") ≡ Some (codes " .")
unfolding after_string pieces string_piece is_string_char scan_escape echar_value is_scalar
string_ends = refl

-- two marks are an empty string
empty_string : IsToken Quoted (codes "''")
empty_string = ([], record { mark = 39; quote = refl; string = ([], refl, refl) })

-- three marks are no string
three_marks : IsToken Quotes (codes "\"\"\"")
three_marks = (34, refl, refl)

-- numbers
signed_five : IsToken Integer (codes "+5")
unfolding is_digit
signed_five = inr (43, codes "5", refl, (omega arith, refl), refl)

-- a number may begin with its point
half : IsToken Decimal (codes ".5")
unfolding is_digit
half = inl ([], codes "5", refl, (omega arith, refl), refl)

-- a point with no digit after it is no part of a number
stop_after_a_number : scan_number (codes "1.") ≡ Some (Integer, codes ".")
unfolding scan_number scan_after_digits scan_after_point after_exponent after_run is_digit
stop_after_a_number = refl

-- an exponent has digits
no_exponent : scan_number (codes "1.5e") ≡ Some (Decimal, codes "e")
unfolding scan_number scan_after_digits scan_after_point after_exponent after_run is_digit
no_exponent = refl

-- names
escaped_comma : SpellsLocal (codes "a\\,") (codes "a" ∷ codes "," ∷ [])
unfolding is_local_first is_local_escape is_sparql_pn_chars_u is_pn_chars_base
escaped_comma = (
  codes "a",
  codes "\\,",
  codes "a",
  codes "," ∷ [],
  inl (0x61, refl, refl, refl),
  inr ([], codes "\\,", codes ",", [], refl, inr (inr (0x2C, refl, refl, refl)), refl, refl),
  refl,
  refl,
)

-- a name does not end with a point
stop_after_a_name : after_local (codes "a.") ≡ Some (codes ".")
unfolding after_local after_local_piece after_dotted_piece after_pieces after_run is_local_first is_local_inner is_sparql_pn_chars is_sparql_pn_chars_u is_pn_chars_base is_pn_chars_more is_digit
stop_after_a_name = refl

-- a variable has no hyphen
no_hyphen_in_variables : is_variable_inner 0x2D ≡ false
unfolding is_variable_inner is_sparql_label_first is_sparql_pn_chars_u is_pn_chars_base is_digit
no_hyphen_in_variables = refl

-- '<' is no sign
no_less_than_sign : is_sign 0x3C ≡ false
unfolding is_sign
no_less_than_sign = refl

-- blanks: a comment ends at CR
comment_ends : after_blanks (codes " #c\ra") ≡ codes "a"
unfolding after_blanks after_blank after_pieces after_run is_white_space is_comment_char
comment_ends = refl

-- white space and an empty comment
white_comment : AreBlanks (codes " #")
unfolding is_white_space
white_comment = (codes " " ∷ codes "#" ∷ [], (codes " ", codes "#", (inl (0x20, refl, refl), refl), (codes "#", [], (inr ([], refl, refl), refl), refl, refl), refl))

-- tokens
two_circumflexes : scan_token (codes "^^^") ≡ Some (Sign, codes "^")
unfolding scan_token scan_marked scan_sign is_pn_chars_base is_digit
two_circumflexes = refl

-- an IRI has its closing bracket
no_token : scan_token (codes "<") ≡ None
unfolding scan_token scan_marked after_iri pieces is_pn_chars_base is_digit
no_token = refl

-- a token is a slice of the source
at_its_place : IsSliceOf (codes "a b") record { kind = Word; text = codes "b"; at = 2 }
at_its_place = refl
