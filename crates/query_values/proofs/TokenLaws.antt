-- What tokens stand for.
use Rattle.std.proofs.Common.{◌≡◌, ℕ, true, false, nat_lt, List, [], ◌∷◌, map, refl, subst}
use Rattle.std.proofs.lemmas.Str.{chars-IsAscii}
use Rattle.std.specs.Char.{to_ascii_lowercase}
use Rattle.std.specs.List.{list_all}
use Rattle.std.specs.Str.{chars, all_scalars}
use Rattle.std.specs.Prelude.{bytes_eq}
use Rattle.rdf_text.specs.Classes.{is_scalar, is_irichar}
use Rattle.bm_term.specs.Canonical.{IsLowerTag, xsd_string}
use Rattle.bm_term.proofs.LowerTags.{IsLowerTag-lowercase}
use Rattle.rdf_text.proofs.TextLemmas.{IsAscii-list_all}
use Rattle.rdf_escapes.proofs.Members.{string_values-characters}
use Rattle.rdf_text.specs.scanning.Text.{after_first}
use Rattle.query_tokens.specs.declared.token.TokenKind.{TokenKind}
use Rattle.query_tokens.specs.declared.token.TokenKind.TheVariants.{Iri, Prefix, Prefixed, Variable, Quoted, Tag, Integer, Decimal, Double, Word, Blank, Sign, Quotes, Bad}
use Rattle.rdf_text.specs.Names.{IsLangtag}
use Rattle.rdf_text.specs.Text.{IsOf}
use Rattle.query_tokens.specs.Token.{IsToken, Lexeme}
use Rattle.query_values.specs.Literals.{xsd_boolean}
use Rattle.query_values.specs.Iris.{rdf_type}
use Rattle.query_values.specs.reading.Values.{IsSpelled, between_marks, lexical_of, tag_of, number_type}

pub lexical_characters : (token : Lexeme) → all_scalars (lexical_of token) ≡ true
unfolding lexical_of
lexical_characters token =
    elim (chars token.text) as (λ text. all_scalars (between_marks text) ≡ true) [
      | [] ↦ refl
      | mark ∷ body ↦ string_values-characters mark body
    ]

-- a tag, as it stands after its mark
pub tag_is_lower : (text : List ℕ) → IsOf IsLangtag text → IsLowerTag (map to_ascii_lowercase (after_first text))
tag_is_lower text (tag, (is, spelled)) = rw spelled (IsLowerTag-lowercase tag is)

pub tag_of-lower : (token : Lexeme) → IsSpelled token → token.kind ≡ Tag → IsLowerTag (tag_of token)
unfolding tag_of
tag_of-lower token spelled kind = tag_is_lower (chars token.text) (subst (λ k. IsToken k (chars token.text)) kind spelled.rule)

-- the datatypes of numbers
pub ascii_chars : (text : List ℕ) → list_all (λ b. nat_lt b 128) text ≡ true → chars text ≡ text
ascii_chars text all = chars-IsAscii text (IsAscii-list_all text all)

pub number_type-chars : (kind : TokenKind) → chars (number_type kind) ≡ number_type kind
unfolding number_type
number_type-chars kind =
    elim kind as (λ k. chars (number_type k) ≡ number_type k) [ Iri ↦ ascii_chars _ refl | Prefix ↦ ascii_chars _ refl | Prefixed ↦ ascii_chars _ refl | Variable ↦ ascii_chars _ refl | Quoted ↦ ascii_chars _ refl | Tag ↦ ascii_chars _ refl | Integer ↦ ascii_chars _ refl | Decimal ↦ ascii_chars _ refl | Double ↦ ascii_chars _ refl | Word ↦ ascii_chars _ refl | Blank ↦ ascii_chars _ refl | Sign ↦ ascii_chars _ refl | Quotes ↦ ascii_chars _ refl | Bad ↦ ascii_chars _ refl ]

pub number_type-irichars : (kind : TokenKind) → list_all is_irichar (number_type kind) ≡ true
unfolding number_type is_irichar is_scalar
number_type-irichars kind =
    elim kind as (λ k. list_all is_irichar (number_type k) ≡ true) [ Iri ↦ refl | Prefix ↦ refl | Prefixed ↦ refl | Variable ↦ refl | Quoted ↦ refl | Tag ↦ refl | Integer ↦ refl | Decimal ↦ refl | Double ↦ refl | Word ↦ refl | Blank ↦ refl | Sign ↦ refl | Quotes ↦ refl | Bad ↦ refl ]

pub number_type-other : (kind : TokenKind) → bytes_eq (number_type kind) xsd_string ≡ false
unfolding number_type xsd_string
number_type-other kind =
    elim kind as (λ k. bytes_eq (number_type k) xsd_string ≡ false) [ Iri ↦ refl | Prefix ↦ refl | Prefixed ↦ refl | Variable ↦ refl | Quoted ↦ refl | Tag ↦ refl | Integer ↦ refl | Decimal ↦ refl | Double ↦ refl | Word ↦ refl | Blank ↦ refl | Sign ↦ refl | Quotes ↦ refl | Bad ↦ refl ]

-- those of `true` and `false`, and what `a` stands for
pub xsd_boolean-chars : chars xsd_boolean ≡ xsd_boolean
unfolding xsd_boolean
xsd_boolean-chars = ascii_chars xsd_boolean refl

pub xsd_boolean-irichars : list_all is_irichar xsd_boolean ≡ true
unfolding xsd_boolean is_irichar is_scalar
xsd_boolean-irichars = refl

pub xsd_boolean-other : bytes_eq xsd_boolean xsd_string ≡ false
unfolding xsd_boolean xsd_string
xsd_boolean-other = refl

pub rdf_type-chars : chars rdf_type ≡ rdf_type
unfolding rdf_type
rdf_type-chars = ascii_chars rdf_type refl

pub rdf_type-irichars : list_all is_irichar rdf_type ≡ true
unfolding rdf_type is_irichar is_scalar
rdf_type-irichars = refl
