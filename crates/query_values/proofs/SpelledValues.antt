-- What tokens stand for is what their rules say.
use Rattle.std.proofs.Common.{◌≡◌, ℕ, true, false, if◌then◌else◌, bytes_eq, ◌⊎◌, Some, List, [], ◌∷◌, ◌++◌, map, refl, ap, subst, ◌∙◌, sym, append_assoc, append-nil, arith}
use Rattle.std.proofs.lemmas.Bool.Decides.{nat_tests}
use Rattle.std.proofs.lemmas.Option.{option_and_then_some, some_pair_parts}
use Rattle.std.proofs.lemmas.Str.{encode_ascii, encodes-chars, scalars-chars}
use Rattle.std.specs.Prelude.{encode_utf8}
use Rattle.std.specs.Char.{to_ascii_lowercase}
use Rattle.std.specs.List.{concat}
use Rattle.std.specs.Str.{chars, encode_utf8_all, IsUtf8}
use Rattle.bm_term.specs.Canonical.{literal_of, IsTerm, plain, typed, xsd_string}
use Rattle.rdf_text.specs.Marks.{at_sign, colon, less_than, greater_than}
use Rattle.rdf_text.specs.scanning.Text.{after_first, after_char}
use Rattle.rdf_text.proofs.TextLemmas.{after_char-some}
use Rattle.rdf_escapes.specs.Iris.{IsIriRef}
use Rattle.rdf_escapes.specs.Strings.{is_quote, IsString}
use Rattle.rdf_escapes.specs.scanning.Pieces.{values, after_values}
use Rattle.rdf_escapes.specs.scanning.Iris.{iri_piece, scan_iri_body, scan_iri_ref}
use Rattle.rdf_escapes.specs.scanning.Strings.{string_piece, scan_string_body, scan_string}
use Rattle.rdf_escapes.proofs.Members.{iri_values-irichars}
use Rattle.rdf_escapes.proofs.SpellingLaws.{iri_ref-again, string-again}
use Rattle.query_tokens.specs.PrefixedNames.{IsPrefixName, IsPrefixed, SpellsLocal}
use Rattle.query_tokens.specs.Token.{IsToken, Lexeme}
use Rattle.query_tokens.specs.Variables.{is_variable_mark}
use Rattle.query_tokens.specs.declared.token.TokenKind.TheVariants.{Prefixed}
use Rattle.query_values.specs.Literals.{xsd_boolean}
use Rattle.query_values.specs.reading.Values.{IsSpelled, between_marks, AreIriChars, iri_of, prefix_of, local_of, lexical_of, tag_of, name_of, number_type, typed_literal, number_literal, boolean_literal}
use Rattle.query_values.proofs.LocalValues.{from_colon-name, before_colon, local_value, local_in_iri}
use Rattle.query_values.proofs.TermLaws.{lower_characters, other_text}
use Rattle.query_values.proofs.TokenLaws.{lexical_characters, number_type-irichars, number_type-other, xsd_boolean-irichars, xsd_boolean-other}

-- what is read of a text in brackets is what stands after the first of them
read_is_behind : (text rest iri : List ℕ) → scan_iri_ref text ≡ Some (iri, rest) → values iri_piece (after_first text) ≡ iri
unfolding scan_iri_ref scan_iri_body
read_is_behind text rest iri e =
    option_and_then_some _ (after_char less_than text) (iri, rest) e (λ body opens e.
    option_and_then_some _ (after_char greater_than (after_values iri_piece body)) (iri, rest) e (λ end closes e.
    let (same, ends) = some_pair_parts (values iri_piece body) iri end rest e in
    ap (λ xs. values iri_piece (after_first xs)) (after_char-some less_than text body opens) ∙ same))

pub iri_of-spells : (token : Lexeme) (iri : List ℕ) → IsIriRef (chars token.text) iri → iri_of token ≡ iri
unfolding iri_of
iri_of-spells token iri is =
    read_is_behind (chars token.text) [] iri (ap scan_iri_ref (sym (append-nil (chars token.text))) ∙ iri_ref-again (chars token.text) [] iri is)

pub iri_of-irichars : (token : Lexeme) → AreIriChars (iri_of token)
unfolding iri_of
iri_of-irichars token = iri_values-irichars (after_first (chars token.text))

read_is_between : (mark : ℕ) (text rest lexical : List ℕ) → scan_string mark text ≡ Some (lexical, rest) → between_marks text ≡ lexical
unfolding scan_string scan_string_body
read_is_between mark text rest lexical e =
    option_and_then_some _ (after_char mark text) (lexical, rest) e (λ body opens e.
    option_and_then_some _ (after_char mark (after_values (string_piece mark) body)) (lexical, rest) e (λ end closes e.
    let (same, ends) = some_pair_parts (values (string_piece mark) body) lexical end rest e in
    ap between_marks (after_char-some mark text body opens) ∙ same))

pub lexical_of-spells : (token : Lexeme) (mark : ℕ) (lexical : List ℕ) → is_quote mark ≡ true → IsString mark (chars token.text) lexical → lexical_of token ≡ lexical
unfolding lexical_of
lexical_of-spells token mark lexical quote is =
    read_is_between mark (chars token.text) [] lexical (ap (scan_string mark) (sym (append-nil (chars token.text))) ∙ string-again mark (chars token.text) [] lexical quote is)

pub prefix_of-spells : (token : Lexeme) (name local : List ℕ) → (name ≡ []) ⊎ IsPrefixName name → chars token.text ≡ name ++ colon ∷ local → prefix_of token ≡ name
unfolding prefix_of
prefix_of-spells token name local is spelled = rw spelled (before_colon name local is)

pub local_of-spells : (token : Lexeme) (name local : List ℕ) (vs : List (List ℕ)) → (name ≡ []) ⊎ IsPrefixName name → SpellsLocal local vs → chars token.text ≡ name ++ colon ∷ local → local_of token ≡ concat vs
unfolding local_of
local_of-spells token name local vs is spells spelled =
    rw (spelled, from_colon-name name local is) (local_value local vs spells)

local_parts : (token : Lexeme) → IsPrefixed (chars token.text) → AreIriChars (local_of token)
local_parts token (front, local, (name, is, front_is), (vs, spells), split) =
    let spelled : chars token.text ≡ name ++ colon ∷ local = split ∙ ap (λ xs. xs ++ local) front_is ∙ append_assoc name (colon ∷ []) local in
    rw (local_of-spells token name local vs is spells spelled) (local_in_iri local vs spells)

pub local_of-irichars : (token : Lexeme) → IsSpelled token → token.kind ≡ Prefixed → AreIriChars (local_of token)
local_of-irichars token spelled kind = local_parts token (subst (λ k. IsToken k (chars token.text)) kind spelled.rule)

pub tag_of-spells : (token : Lexeme) (tag : List ℕ) → chars token.text ≡ at_sign ∷ tag → tag_of token ≡ map to_ascii_lowercase tag
unfolding tag_of
tag_of-spells token tag spelled = rw spelled refl

-- the marks of variables are of one byte
one_byte : (mark : ℕ) → is_variable_mark mark ≡ true → encode_utf8 mark ≡ mark ∷ []
one_byte mark is = encode_ascii mark (grind (arith, nat_tests))

pub name_of-spells : (token : Lexeme) (mark : ℕ) (name : List ℕ) → IsUtf8 token.text → is_variable_mark mark ≡ true → chars token.text ≡ mark ∷ name → name_of token ≡ encode_utf8_all name
unfolding name_of
name_of-spells token mark name utf8 is spelled =
    let bytes : token.text ≡ mark ∷ encode_utf8_all name =
    sym (encodes-chars token.text utf8) ∙ ap encode_utf8_all spelled ∙ ap (λ xs. xs ++ encode_utf8_all name) (one_byte mark is) in
    rw bytes refl

-- literals are terms
pub typed_is_term : (token : Lexeme) (datatype : List ℕ) → AreIriChars datatype → IsTerm (typed_literal token datatype)
unfolding literal_of
typed_is_term token datatype members =
    elim (bytes_eq datatype xsd_string) as (λ b. bytes_eq datatype xsd_string ≡ b → IsTerm (if b then plain (lexical_of token) else typed (lexical_of token) datatype)) [
      | true ↦ λ e. lexical_characters token
      | false ↦ λ e. (lexical_characters token, members, other_text datatype xsd_string e)
    ] refl

pub number_is_term : (token : Lexeme) → IsSpelled token → IsTerm (number_literal token)
number_is_term token spelled =
    (scalars-chars token.text spelled.utf8, number_type-irichars token.kind, other_text (number_type token.kind) xsd_string (number_type-other token.kind))

pub boolean_is_term : (token : Lexeme) → IsSpelled token → IsTerm (boolean_literal token)
boolean_is_term token spelled =
    (lower_characters (chars token.text) (scalars-chars token.text spelled.utf8), xsd_boolean-irichars, other_text xsd_boolean xsd_string xsd_boolean-other)
