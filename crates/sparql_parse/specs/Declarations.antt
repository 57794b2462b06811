-- The declarations of prefixes among the tokens of a query. SPARQL 1.1 Query, section 4.1.1.
use Rattle.std.specs.Prelude.{◌≡◌, ℕ, List, ◌∷◌, ◌++◌}
use Rattle.query_tokens.specs.Token.{Lexeme}
use Rattle.query_grammar.specs.declared.syntax.Role.TheVariants as roles
use Rattle.query_grammar.specs.Roles.{Labelled, with_role}
use Rattle.query_values.specs.Iris.{SpellsIri, SpellsPrefix}

-- a declaration stands among the tokens: a prefix, and right after it the IRI for which it is declared
pub record Declares (tokens : List Labelled) (prefix iri : List ℕ) : Type 0 where
  pub before : List Labelled
  pub label : Lexeme
  pub namespace : Lexeme
  pub after : List Labelled
  pub split : tokens ≡ before ++ with_role roles.Declared label ∷ with_role roles.Namespace namespace ∷ after
  pub prefix_is : SpellsPrefix label prefix
  pub iri_is : SpellsIri namespace iri

-- some declaration of the prefix stands among the tokens
abbrev pub IsDeclared : List Labelled → List ℕ → Type 0
IsDeclared tokens prefix = (iri : List ℕ) × Declares tokens prefix iri

-- the prefix stands for the IRI: it is declared for it, and not declared again after that
pub record StandsFor (tokens : List Labelled) (prefix iri : List ℕ) : Type 0 where
  pub declaration : Declares tokens prefix iri
  pub last : ¬ IsDeclared declaration.after prefix
