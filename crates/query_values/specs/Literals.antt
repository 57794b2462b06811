-- Literals as the tokens of a query spell them. SPARQL 1.1 Query, sections 4.1.2 and 19.8.
use Rattle.std.specs.Prelude.{◌≡◌, ℕ, ◌⊎◌, codes, List, ◌∷◌, map}
use Rattle.std.specs.Char.{to_ascii_lowercase}
use Rattle.std.specs.Str.{chars}
use Rattle.rdf_text.specs.Marks.{at_sign}
use Rattle.rdf_text.specs.Classes.{is_letter, is_alphanumeric}
use Rattle.bm_term.specs.Canonical.{RdfTerm, typed}
use Rattle.rdf_text.specs.Names.{IsLanguageTag}
use Rattle.query_tokens.specs.Strings.{SpellsString}
use Rattle.query_tokens.specs.Token.{Lexeme}
use Rattle.query_tokens.specs.declared.token.TokenKind.{TokenKind}
use Rattle.query_tokens.specs.declared.token.TokenKind.TheVariants as kinds

-- STRING_LITERAL1 | STRING_LITERAL2: the characters between the marks, the escapes undone
pub record SpellsLexical (token : Lexeme) (lexical : List ℕ) : Type 0 where
  pub kind : token.kind ≡ kinds.Quoted
  pub spelled : SpellsString (chars token.text) lexical

-- LANGTAG: the tag without its mark, in lower case
pub record SpellsTag (token : Lexeme) (tag : List ℕ) : Type 0 where
  pub kind : token.kind ≡ kinds.Tag
  pub written : List ℕ
  pub is_tag : IsLanguageTag is_letter is_alphanumeric written
  pub spelled : chars token.text ≡ at_sign ∷ written
  pub lower : tag ≡ map to_ascii_lowercase written

-- the datatypes of INTEGER, DECIMAL and DOUBLE, which may have a sign
abbrev pub xsd_integer : List ℕ
xsd_integer = codes "http://www.w3.org/2001/XMLSchema#integer"

abbrev pub xsd_decimal : List ℕ
xsd_decimal = codes "http://www.w3.org/2001/XMLSchema#decimal"

abbrev pub xsd_double : List ℕ
xsd_double = codes "http://www.w3.org/2001/XMLSchema#double"

-- the datatype of a number is that of its kind
abbrev pub IsNumberType : TokenKind → List ℕ → Type 0
IsNumberType kinds.Integer datatype = datatype ≡ xsd_integer
IsNumberType kinds.Decimal datatype = datatype ≡ xsd_decimal
IsNumberType kinds.Double datatype = datatype ≡ xsd_double
IsNumberType _ datatype = ⊥

-- a number: its text, with the datatype of its kind
pub record SpellsNumber (token : Lexeme) (literal : RdfTerm) : Type 0 where
  pub datatype : List ℕ
  pub kind : IsNumberType token.kind datatype
  pub literal_is : literal ≡ typed (chars token.text) datatype

unfoldable pub xsd_boolean : List ℕ
xsd_boolean = codes "http://www.w3.org/2001/XMLSchema#boolean"

-- 'true' | 'false', written without case: the word in lower case
pub record SpellsBoolean (token : Lexeme) (literal : RdfTerm) : Type 0 where
  pub kind : token.kind ≡ kinds.Word
  pub word : List ℕ
  pub is_word : (word ≡ codes "true") ⊎ (word ≡ codes "false")
  pub spelled : map to_ascii_lowercase (chars token.text) ≡ word
  pub literal_is : literal ≡ typed word xsd_boolean
