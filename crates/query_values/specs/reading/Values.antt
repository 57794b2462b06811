-- Carries proofs only: what tokens stand for, read from their texts: the characters of IRIs, names and literals, and the
-- terms. Characters are code points.
use Rattle.std.specs.Prelude.{◌≡◌, ◌⊎◌, ℕ, Bool, ◌==◌, not, IsTrue, List, [], ◌∷◌, ◌++◌, map}
use Rattle.std.specs.Char.{to_ascii_lowercase}
use Rattle.std.specs.List.{filter, list_all}
use Rattle.std.specs.Str.{chars, IsUtf8}
use Rattle.rdf_text.specs.Marks.{colon, backslash}
use Rattle.rdf_text.specs.Classes.{is_irichar}
use Rattle.bm_term.specs.Canonical.{RdfTerm, iri, plain, tagged, typed, literal_of}
use Rattle.rdf_text.specs.scanning.Text.{after_first, after_run, before}
use Rattle.rdf_escapes.specs.scanning.Pieces.{values}
use Rattle.rdf_escapes.specs.scanning.Iris.{iri_piece}
use Rattle.rdf_escapes.specs.scanning.Strings.{string_piece}
use Rattle.query_tokens.specs.declared.token.TokenKind.{TokenKind}
use Rattle.query_tokens.specs.declared.token.TokenKind.TheVariants.{Integer, Decimal, Bad}
use Rattle.query_tokens.specs.Token.{IsToken, Lexeme}
use Rattle.query_values.specs.Iris.{rdf_type}
use Rattle.query_values.specs.Literals.{xsd_integer, xsd_decimal, xsd_double, xsd_boolean}

-- the token's bytes are a text of the rule of its kind
pub record IsSpelled (token : Lexeme) : Type 0 where
  pub utf8 : IsUtf8 token.text
  pub rule : IsToken token.kind (chars token.text)

-- a token is spelled, or bad
abbrev pub IsSpelledOrBad : Lexeme → Type 0
IsSpelledOrBad token = (token.kind ≡ Bad) ⊎ IsSpelled token

-- the characters that an IRI in brackets spells, its escapes undone
unfoldable pub iri_of : Lexeme → List ℕ
iri_of token = values iri_piece (after_first (chars token.text))

unfoldable pub is_no_colon : ℕ → Bool
is_no_colon c = not (c == colon)

-- a text from its first colon on
abbrev pub from_colon : List ℕ → List ℕ
from_colon text = after_run is_no_colon text

-- the prefix of a prefixed name, or of a prefix with its colon: what stands before the colon
unfoldable pub prefix_of : Lexeme → List ℕ
prefix_of token = before (chars token.text) (from_colon (chars token.text))

unfoldable pub is_no_backslash : ℕ → Bool
is_no_backslash c = not (c == backslash)

-- the local name of a prefixed name: what stands after the colon, without the backslashes of its escapes
unfoldable pub local_of : Lexeme → List ℕ
local_of token = filter is_no_backslash (after_first (from_colon (chars token.text)))

-- the IRI of a prefixed name, with the namespace of its prefix
abbrev pub prefixed_iri : List ℕ → Lexeme → List ℕ
prefixed_iri namespace token = namespace ++ local_of token

-- the characters between the marks of a string, its escapes undone
abbrev pub between_marks : List ℕ → List ℕ
between_marks [] = []
between_marks (mark ∷ body) = values (string_piece mark) body

-- the lexical form of a string
unfoldable pub lexical_of : Lexeme → List ℕ
lexical_of token = between_marks (chars token.text)

-- a language tag, in lower case and without its mark
unfoldable pub tag_of : Lexeme → List ℕ
tag_of token = map to_ascii_lowercase (after_first (chars token.text))

-- the bytes of a variable's name, without its mark
unfoldable pub name_of : Lexeme → List ℕ
name_of token = after_first token.text

-- all of them may stand in an IRI
abbrev pub AreIriChars : List ℕ → Type 0
AreIriChars cs = IsTrue (list_all is_irichar cs)

-- The terms.
abbrev pub plain_literal : Lexeme → RdfTerm
plain_literal string = plain (lexical_of string)

abbrev pub tagged_literal : Lexeme → Lexeme → RdfTerm
tagged_literal string tag = tagged (lexical_of string) (tag_of tag)

abbrev pub typed_literal : Lexeme → List ℕ → RdfTerm
typed_literal string datatype = literal_of (lexical_of string) datatype

-- the datatype of a number
unfoldable pub number_type : TokenKind → List ℕ
number_type Integer = xsd_integer
number_type Decimal = xsd_decimal
number_type _ = xsd_double

-- a number: the text of the token, with the datatype of its kind
abbrev pub number_literal : Lexeme → RdfTerm
number_literal token = typed (chars token.text) (number_type token.kind)

-- `true` and `false`, which are written without case: in lower case
abbrev pub boolean_literal : Lexeme → RdfTerm
boolean_literal token = typed (map to_ascii_lowercase (chars token.text)) xsd_boolean

-- what the word `a` stands for
abbrev pub type_iri : RdfTerm
type_iri = iri rdf_type
