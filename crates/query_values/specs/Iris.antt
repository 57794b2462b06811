-- IRIs as the tokens of a query spell them: in brackets, and as prefixed names. SPARQL 1.1 Query, sections 4.1.1 and 19.8.
-- Characters are code points.
use Rattle.std.specs.Prelude.{◌≡◌, ℕ, ◌⊎◌, codes, List, [], ◌∷◌, ◌++◌}
use Rattle.std.specs.List.{concat}
use Rattle.std.specs.Str.{chars}
use Rattle.rdf_text.specs.Marks.{colon}
use Rattle.rdf_escapes.specs.Iris.{IsIriRef}
use Rattle.query_tokens.specs.PrefixedNames.{IsPrefixName, SpellsLocal}
use Rattle.query_tokens.specs.Token.{Lexeme}
use Rattle.query_tokens.specs.declared.token.TokenKind.TheVariants as kinds

-- IRIREF: an IRI in brackets, with its characters, the escapes undone
pub record SpellsIri (token : Lexeme) (iri : List ℕ) : Type 0 where
  pub kind : token.kind ≡ kinds.Iri
  pub spelled : IsIriRef (chars token.text) iri

-- the label of a prefix: PN_PREFIX, or nothing
abbrev pub IsLabel : List ℕ → Type 0
IsLabel label = (label ≡ []) ⊎ IsPrefixName label

-- PNAME_NS: the label of a prefix, and the colon
pub record SpellsPrefix (token : Lexeme) (prefix : List ℕ) : Type 0 where
  pub kind : token.kind ≡ kinds.Prefix
  pub label : IsLabel prefix
  pub spelled : chars token.text ≡ prefix ++ colon ∷ []

-- PNAME_LN: the label of a prefix, the colon, and a local part, with the characters for which that stands
pub record SpellsPrefixed (token : Lexeme) (prefix local : List ℕ) : Type 0 where
  pub kind : token.kind ≡ kinds.Prefixed
  pub label : IsLabel prefix
  pub text : List ℕ
  pub pieces : List (List ℕ)
  pub local_text : SpellsLocal text pieces
  pub local_is : local ≡ concat pieces
  pub spelled : chars token.text ≡ prefix ++ colon ∷ text

-- a prefixed name: the label of a prefix and a local part, either of which may be empty
abbrev pub SpellsPrefixedName : Lexeme → List ℕ → List ℕ → Type 0
SpellsPrefixedName token prefix local = SpellsPrefixed token prefix local ⊎ (SpellsPrefix token prefix × (local ≡ []))

-- what the word `a` stands for (4.2.4)
unfoldable pub rdf_type : List ℕ
rdf_type = codes "http://www.w3.org/1999/02/22-rdf-syntax-ns#type"
