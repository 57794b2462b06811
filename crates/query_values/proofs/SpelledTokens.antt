-- What tokens spell, by the relations of their rules, is what is read of them.
use Rattle.std.proofs.Common.{◌≡◌, ℕ, true, nat_lt, ◌⊎◌, inl, inr, List, [], ◌∷◌, ◌++◌, map, refl, ap, subst, ◌∙◌, sym, append_assoc, arith}
use Rattle.std.proofs.lemmas.Bool.{and_parts}
use Rattle.std.proofs.lemmas.Bool.Decides.{nat_tests}
use Rattle.std.proofs.lemmas.Slice.Eq.{bytes_eq-Decides}
use Rattle.std.proofs.lemmas.Str.{encode_ascii, encodes-chars, chars-encodes, scalars-chars}
use Rattle.std.specs.Prelude.{encode_utf8, codes}
use Rattle.std.specs.Char.{to_ascii_lowercase}
use Rattle.std.specs.Cmp.Derive.{both_true}
use Rattle.std.specs.List.{list_all}
use Rattle.std.specs.Str.{chars, encode_utf8_all, str_eq_ignore_ascii_case}
use lib.Utf8.{scalar, scalars}
use Rattle.bm_term.specs.Canonical.{RdfTerm, typed}
use Rattle.rdf_text.specs.Marks.{colon}
use Rattle.rdf_escapes.specs.Iris.{IsIriRef}
use Rattle.query_tokens.specs.Strings.{SpellsString}
use Rattle.query_tokens.specs.PrefixedNames.{IsPrefixed}
use Rattle.query_tokens.specs.Token.{IsToken, Lexeme}
use Rattle.query_tokens.specs.Variables.{IsVariableName}
use Rattle.query_tokens.specs.declared.token.TokenKind.{TokenKind}
use Rattle.query_tokens.specs.declared.token.TokenKind.TheVariants as kinds
use Rattle.query_values.specs.Literals.{xsd_boolean}
use Rattle.query_values.specs.reading.Values.{IsSpelled, iri_of, prefix_of, local_of, lexical_of, tag_of, name_of, number_type, number_literal, boolean_literal}
use Rattle.query_values.proofs.SpelledValues.{iri_of-spells, prefix_of-spells, local_of-spells, lexical_of-spells, tag_of-spells, name_of-spells}
use Rattle.query_values.proofs.TokenLaws.{ascii_chars}
use Rattle.query_values.specs.Iris.{SpellsIri, IsLabel, SpellsPrefix, SpellsPrefixed, SpellsPrefixedName}
use Rattle.query_values.specs.Literals.{SpellsLexical, SpellsTag, IsNumberType, SpellsNumber, SpellsBoolean}
use Rattle.query_values.specs.Variables.{SpellsVariable}

-- an IRI in brackets
pub SpellsIri-is : (token : Lexeme) (iri : List ℕ) → SpellsIri token iri → iri_of token ≡ iri
SpellsIri-is token iri s = iri_of-spells token iri s.spelled

-- a token that is an IRI spells what is read of it
pub iri_of-spelled : (token : Lexeme) → IsSpelled token → token.kind ≡ kinds.Iri → SpellsIri token (iri_of token)
iri_of-spelled token spelled kind =
    let (iri, is) = subst (λ (k : TokenKind). IsToken k (chars token.text)) kind spelled.rule in
    record { kind = kind; spelled = subst (IsIriRef (chars token.text)) (sym (iri_of-spells token iri is)) is }

-- a prefix with its colon
pub SpellsPrefix-is : (token : Lexeme) (prefix : List ℕ) → SpellsPrefix token prefix → prefix_of token ≡ prefix
SpellsPrefix-is token prefix s = prefix_of-spells token prefix [] s.label s.spelled

-- so does one that is a prefix
pub prefix_of-spelled : (token : Lexeme) → IsSpelled token → token.kind ≡ kinds.Prefix → SpellsPrefix token (prefix_of token)
prefix_of-spelled token spelled kind =
    let (name, label, text) = subst (λ (k : TokenKind). IsToken k (chars token.text)) kind spelled.rule in
    let same : prefix_of token ≡ name = prefix_of-spells token name [] label text in
    record { kind = kind; label = subst IsLabel (sym same) label; spelled = text ∙ ap (λ xs. xs ++ colon ∷ []) (sym same) }

-- a prefixed name
prefixed-parts : (token : Lexeme) → token.kind ≡ kinds.Prefixed → IsPrefixed (chars token.text) → SpellsPrefixed token (prefix_of token) (local_of token)
prefixed-parts token kind (front, local, (name, label, front_is), (pieces, spells), split) =
    let text : chars token.text ≡ name ++ colon ∷ local = split ∙ ap (λ xs. xs ++ local) front_is ∙ append_assoc name (colon ∷ []) local in
    let same : prefix_of token ≡ name = prefix_of-spells token name local label text in
    record {
      kind = kind;
      label = subst IsLabel (sym same) label;
      text = local;
      pieces = pieces;
      local_text = spells;
      local_is = local_of-spells token name local pieces label spells text;
      spelled = text ∙ ap (λ xs. xs ++ colon ∷ local) (sym same);
    }

-- so does one that is a prefixed name
pub prefixed-spelled : (token : Lexeme) → IsSpelled token → token.kind ≡ kinds.Prefixed → SpellsPrefixed token (prefix_of token) (local_of token)
prefixed-spelled token spelled kind = prefixed-parts token kind (subst (λ (k : TokenKind). IsToken k (chars token.text)) kind spelled.rule)

-- the prefix of a prefixed name is what is read of it
pub SpellsPrefixed-prefix : (token : Lexeme) (prefix local : List ℕ) → SpellsPrefixed token prefix local → prefix_of token ≡ prefix
SpellsPrefixed-prefix token prefix local s = prefix_of-spells token prefix s.text s.label s.spelled

-- so is its local part
pub SpellsPrefixed-local : (token : Lexeme) (prefix local : List ℕ) → SpellsPrefixed token prefix local → local_of token ≡ local
SpellsPrefixed-local token prefix local s = local_of-spells token prefix s.text s.pieces s.label s.local_text s.spelled ∙ sym s.local_is

-- so is the prefix where the local part may be empty
pub SpellsPrefixedName-prefix : (token : Lexeme) (prefix local : List ℕ) → SpellsPrefixedName token prefix local → prefix_of token ≡ prefix
SpellsPrefixedName-prefix token prefix local (inl s) = SpellsPrefixed-prefix token prefix local s
SpellsPrefixedName-prefix token prefix local (inr (s, empty)) = SpellsPrefix-is token prefix s

-- a variable
pub SpellsVariable-is : (token : Lexeme) (name : List ℕ) → SpellsVariable token name → name_of token ≡ name
unfolding name_of
SpellsVariable-is token name s = rw s.spelled refl

-- a token that is a variable spells the name that is read of it
pub name_of-spelled : (token : Lexeme) → IsSpelled token → token.kind ≡ kinds.Variable → SpellsVariable token (name_of token)
name_of-spelled token spelled kind =
    let (mark, name, is_mark, is_name, text) = subst (λ (k : TokenKind). IsToken k (chars token.text)) kind spelled.rule in
    let all : scalars (mark ∷ name) ≡ true = ap scalars (sym text) ∙ scalars-chars token.text spelled.utf8 in
    let same : name_of token ≡ encode_utf8_all name = name_of-spells token mark name spelled.utf8 is_mark text in
    let characters : chars (name_of token) ≡ name = ap chars same ∙ chars-encodes name (and_parts (scalar mark) (scalars name) all).1 in
    let one : encode_utf8 mark ≡ mark ∷ [] = encode_ascii mark (grind (arith, nat_tests)) in
    record {
      kind = kind;
      mark = mark;
      is_mark = is_mark;
      is_name = subst IsVariableName (sym characters) is_name;
      spelled = sym (encodes-chars token.text spelled.utf8) ∙ ap encode_utf8_all text ∙ ap (λ xs. xs ++ encode_utf8_all name) one ∙ ap (λ xs. mark ∷ xs) (sym same);
    }

-- a string
pub SpellsLexical-is : (token : Lexeme) (lexical : List ℕ) → SpellsLexical token lexical → lexical_of token ≡ lexical
SpellsLexical-is token lexical s = lexical_of-spells token s.spelled.mark lexical s.spelled.quote s.spelled.string

-- a token that is a string spells what is read of it
pub lexical_of-spelled : (token : Lexeme) → IsSpelled token → token.kind ≡ kinds.Quoted → SpellsLexical token (lexical_of token)
lexical_of-spelled token spelled kind =
    let (lexical, is) = subst (λ (k : TokenKind). IsToken k (chars token.text)) kind spelled.rule in
    let same : lexical_of token ≡ lexical = lexical_of-spells token is.mark lexical is.quote is.string in
    record { kind = kind; spelled = subst (SpellsString (chars token.text)) (sym same) is }

-- a language tag
pub SpellsTag-is : (token : Lexeme) (tag : List ℕ) → SpellsTag token tag → tag_of token ≡ tag
SpellsTag-is token tag s = tag_of-spells token s.written s.spelled ∙ sym s.lower

-- a token that is a tag spells what is read of it
pub tag_of-spelled : (token : Lexeme) → IsSpelled token → token.kind ≡ kinds.Tag → SpellsTag token (tag_of token)
tag_of-spelled token spelled kind =
    let (written, is) = subst (λ (k : TokenKind). IsToken k (chars token.text)) kind spelled.rule in
    record { kind = kind; written = written; is_tag = is.0; spelled = is.1; lower = tag_of-spells token written is.1 }

-- a number
IsNumberType-is : (kind : TokenKind) (datatype : List ℕ) → IsNumberType kind datatype → datatype ≡ number_type kind
unfolding number_type
IsNumberType-is kinds.Integer datatype is = is
IsNumberType-is kinds.Decimal datatype is = is
IsNumberType-is kinds.Double datatype is = is
IsNumberType-is _ datatype is = absurd is

-- a number is the literal that is read of it
pub SpellsNumber-is : (token : Lexeme) (literal : RdfTerm) → SpellsNumber token literal → literal ≡ number_literal token
SpellsNumber-is token literal s = s.literal_is ∙ ap (typed (chars token.text)) (IsNumberType-is token.kind s.datatype s.kind)

-- the kinds of numbers
abbrev pub IsNumberKind : TokenKind → Type 0
IsNumberKind kind = (kind ≡ kinds.Integer) ⊎ ((kind ≡ kinds.Decimal) ⊎ (kind ≡ kinds.Double))

-- the datatype of a kind of numbers
number_type-is : (kind : TokenKind) → IsNumberKind kind → IsNumberType kind (number_type kind)
unfolding number_type
number_type-is kind (inl e) = subst (λ (k : TokenKind). IsNumberType k (number_type k)) (sym e) refl
number_type-is kind (inr (inl e)) = subst (λ (k : TokenKind). IsNumberType k (number_type k)) (sym e) refl
number_type-is kind (inr (inr e)) = subst (λ (k : TokenKind). IsNumberType k (number_type k)) (sym e) refl

-- a token that is a number spells the literal that is read of it
pub number-spelled : (token : Lexeme) → IsNumberKind token.kind → SpellsNumber token (number_literal token)
number-spelled token kind = record { datatype = number_type token.kind; kind = number_type-is token.kind kind; literal_is = refl }

-- `true` and `false`
pub SpellsBoolean-is : (token : Lexeme) (literal : RdfTerm) → SpellsBoolean token literal → literal ≡ boolean_literal token
SpellsBoolean-is token literal s = s.literal_is ∙ ap (λ w. typed w xsd_boolean) (sym s.spelled)

-- a character whose lower case is ASCII is ASCII
lower-ascii : (c : ℕ) → nat_lt (to_ascii_lowercase c) 128 ≡ true → nat_lt c 128 ≡ true
lower-ascii c e = grind (arith, nat_tests)

-- and so is a text
lowers-ascii : (text : List ℕ) → list_all (λ b. nat_lt b 128) (map to_ascii_lowercase text) ≡ true → list_all (λ b. nat_lt b 128) text ≡ true
lowers-ascii [] all = refl
lowers-ascii (c ∷ text) all =
    let (first, others) = and_parts (nat_lt (to_ascii_lowercase c) 128) (list_all (λ b. nat_lt b 128) (map to_ascii_lowercase text)) all in
    both_true (lower-ascii c first) (lowers-ascii text others)

-- a text that is a word of ASCII, without case
word-lower : (text word : List ℕ) → list_all (λ b. nat_lt b 128) (map to_ascii_lowercase word) ≡ true → str_eq_ignore_ascii_case text word ≡ true → map to_ascii_lowercase (chars text) ≡ map to_ascii_lowercase word
word-lower text word ascii e =
    let same : map to_ascii_lowercase text ≡ map to_ascii_lowercase word = (bytes_eq-Decides (map to_ascii_lowercase text) (map to_ascii_lowercase word)).0 e in
    let all : list_all (λ b. nat_lt b 128) text ≡ true = lowers-ascii text (ap (list_all (λ b. nat_lt b 128)) same ∙ ascii) in
    ap (map to_ascii_lowercase) (ascii_chars text all) ∙ same

-- the text is `true` or `false`, without case
abbrev pub IsBooleanText : List ℕ → Type 0
IsBooleanText text = (str_eq_ignore_ascii_case text (codes "true") ≡ true) ⊎ (str_eq_ignore_ascii_case text (codes "false") ≡ true)

-- such a word spells the literal that is read of it
pub boolean-spelled : (token : Lexeme) → token.kind ≡ kinds.Word → IsBooleanText token.text → SpellsBoolean token (boolean_literal token)
boolean-spelled token kind (inl e) =
    let same : map to_ascii_lowercase (chars token.text) ≡ codes "true" = word-lower token.text (codes "true") refl e in
    record { kind = kind; word = codes "true"; is_word = inl refl; spelled = same; literal_is = ap (λ w. typed w xsd_boolean) same }
boolean-spelled token kind (inr e) =
    let same : map to_ascii_lowercase (chars token.text) ≡ codes "false" = word-lower token.text (codes "false") refl e in
    record { kind = kind; word = codes "false"; is_word = inr refl; spelled = same; literal_is = ap (λ w. typed w xsd_boolean) same }
