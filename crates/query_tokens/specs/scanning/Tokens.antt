-- Carries proofs only: how a token is read from the front of a text. The laws that tie this to tokens are in proofs/.
use Rattle.std.specs.Prelude.{unwrap_or, ℕ, ◌==◌, if◌then◌else◌, Option, Some, None, List, [], ◌∷◌}
use Rattle.std.specs.Option.{option_map, option_map_or}
use Rattle.rdf_text.specs.Classes.{is_letter, is_alphanumeric, is_digit, is_pn_chars_base, is_sparql_label_first, is_sparql_pn_chars}
use Rattle.rdf_text.specs.Marks.{dollar_sign, plus_sign, hyphen, full_stop, colon, less_than, question_mark, at_sign, circumflex, low_line}
use Rattle.rdf_text.specs.scanning.Names.{after_dotted_name, after_language_tag}
use Rattle.rdf_text.specs.scanning.Text.{◌>>=◌, after_char}
use Rattle.rdf_escapes.specs.Strings.{is_quote}
use Rattle.query_tokens.specs.declared.token.TokenKind.{TokenKind}
use Rattle.query_tokens.specs.declared.token.TokenKind.TheVariants.{Iri, Variable, Quoted, Tag, Blank, Sign, Quotes, Bad}
use Rattle.query_tokens.specs.Signs.{is_sign}
use Rattle.query_tokens.specs.scanning.Iris.{after_iri}
use Rattle.query_tokens.specs.scanning.Numbers.{scan_fraction, scan_number}
use Rattle.query_tokens.specs.scanning.PrefixedNames.{scan_local, scan_name}
use Rattle.query_tokens.specs.scanning.ScannedToken.{ScannedToken}
use Rattle.query_tokens.specs.scanning.Strings.{after_string}
use Rattle.query_tokens.specs.scanning.Variables.{after_variable_name}

-- a token of this kind, where something follows it
abbrev pub as_kind : TokenKind → Option (List ℕ) → Option ScannedToken
as_kind kind after = option_map (λ rest. (kind, rest)) after

-- the sign of one character that was read, unless more was
abbrev pub or_sign : Option ScannedToken → List ℕ → Option ScannedToken
or_sign None text = Some (Sign, text)
or_sign (Some found) text = Some found

-- where a quotation mark is read
unfoldable pub after_two_more : ℕ → List ℕ → Option (List ℕ)
after_two_more mark text = after_char mark text >>= after_char mark

unfoldable pub scan_quoted : ℕ → List ℕ → Option ScannedToken
scan_quoted mark text =
    option_map_or (λ rest. Some (Quotes, rest)) (after_two_more mark text) (as_kind Quoted (after_string mark text))

-- where '_' is read
unfoldable pub after_blank_label : List ℕ → Option (List ℕ)
after_blank_label text = after_char colon text >>= after_dotted_name is_sparql_label_first is_sparql_pn_chars

-- where '^' is read
abbrev pub after_circumflex : List ℕ → List ℕ
after_circumflex text = option_map_or (λ rest. rest) (after_char circumflex text) text

-- where the first character c is read, and is one of signs or of what may begin a number or a variable
unfoldable pub scan_sign : ℕ → List ℕ → Option ScannedToken
scan_sign c text =
    if c == question_mark then or_sign (as_kind Variable (after_variable_name text)) text
    else (if c == dollar_sign then as_kind Variable (after_variable_name text)
    else (if c == plus_sign then or_sign (scan_number text) text
    else (if c == hyphen then scan_number text
    else (if c == full_stop then or_sign (scan_fraction text) text
    else (if c == circumflex then Some (Sign, after_circumflex text)
    else (if is_sign c then Some (Sign, text) else None))))))

-- where the first character c is read, and is neither of names nor a digit
unfoldable pub scan_marked : ℕ → List ℕ → Option ScannedToken
scan_marked c text =
    if c == less_than then as_kind Iri (after_iri text)
    else (if is_quote c then scan_quoted c text
    else (if c == at_sign then as_kind Tag (after_language_tag is_letter is_alphanumeric text)
    else (if c == low_line then as_kind Blank (after_blank_label text)
    else (if c == colon then Some (scan_local text) else scan_sign c text))))

unfoldable pub scan_token : List ℕ → Option ScannedToken
scan_token [] = None
scan_token (c ∷ cs) =
    if is_pn_chars_base c then scan_name (c ∷ cs)
    else (if is_digit c then scan_number (c ∷ cs) else scan_marked c cs)

-- a token, or all of the text as bad
unfoldable pub scan_or_bad : List ℕ → ScannedToken
scan_or_bad text = unwrap_or (scan_token text) (Bad, [])
