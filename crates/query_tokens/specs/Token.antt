-- What a token is: a rule for each kind. SPARQL 1.1 Query, section 19.8, as this project reads it.
use Rattle.std.specs.Prelude.{ℕ, List}
use Rattle.rdf_text.specs.Classes.{is_letter, is_sparql_label_first, is_sparql_pn_chars}
use Rattle.rdf_text.specs.Names.{IsLangtag, IsBlankNodeLabel}
use Rattle.rdf_text.specs.Text.{IsRun, IsOf}
use Rattle.query_tokens.specs.declared.token.Token.{Token}
use Rattle.query_tokens.specs.declared.token.TokenKind.{TokenKind}
use Rattle.query_tokens.specs.declared.token.TokenKind.TheVariants.{Iri, Prefix, Prefixed, Variable, Quoted, Tag, Integer, Decimal, Double, Word, Blank, Sign, Quotes, Bad}
use Rattle.rdf_escapes.specs.Iris.{IsIriRef}
use Rattle.query_tokens.specs.PrefixedNames.{IsPrefix, IsPrefixed}
use Rattle.query_tokens.specs.Variables.{IsVariable}
use Rattle.query_tokens.specs.Strings.{IsQuoted, IsThreeQuotes}
use Rattle.query_tokens.specs.Numbers.{IsSigned, IsDigits, IsFraction, IsScientific}
use Rattle.query_tokens.specs.Signs.{IsSign}

-- The text is of the rule of this kind; no text is Bad. A run of letters is one word, so words have to be parted by white
-- space or a comment: SELECTDISTINCT is one word.
abbrev pub IsToken : TokenKind → List ℕ → Type 0
IsToken Iri text = IsOf IsIriRef text
IsToken Prefix text = IsPrefix text
IsToken Prefixed text = IsPrefixed text
IsToken Variable text = IsVariable text
IsToken Quoted text = IsQuoted text
IsToken Tag text = IsOf IsLangtag text
IsToken Integer text = IsSigned IsDigits text
IsToken Decimal text = IsSigned IsFraction text
IsToken Double text = IsSigned IsScientific text
IsToken Word text = IsRun is_letter text
IsToken Blank text = IsOf (IsBlankNodeLabel is_sparql_label_first is_sparql_pn_chars) text
IsToken Sign text = IsSign text
IsToken Quotes text = IsThreeQuotes text
IsToken Bad text = ⊥

-- the text is of some rule
abbrev pub IsOfSomeRule : List ℕ → Type 0
IsOfSomeRule text = (kind : TokenKind) × IsToken kind text

-- A token as definitions see it: its kind, its bytes, and the byte of the source with which it begins, from 0.
pub record Lexeme : Type 0 where
  pub kind : TokenKind
  pub text : List ℕ
  pub at : ℕ

abbrev pub shown : Token → Lexeme
shown token = record { kind = token.kind; text = token.text.now; at = token.at }
