-- Carries proofs only: the names and the declarations among tokens, read one by one.
use Rattle.std.specs.Prelude.{ℕ, Bool, List, [], ◌∷◌, ◌++◌, Option, Some, None, fold, find, reverse, option_map}
use Rattle.query_tokens.specs.Token.{Lexeme}
use Rattle.query_grammar.specs.declared.terminal.Terminal.{Terminal}
use Rattle.query_grammar.specs.declared.terminal.Terminal.TheVariants as terminals
use Rattle.query_grammar.specs.declared.syntax.Role.{Role}
use Rattle.query_grammar.specs.declared.syntax.Role.TheVariants as roles
use Rattle.query_grammar.specs.Terminals.{terminal_of}
use Rattle.query_grammar.specs.Roles.{Labelled}
use Rattle.query_values.specs.reading.Values.{name_of, prefix_of, iri_of}
use Rattle.sparql_parse.specs.Names.{same_text, with_item}

-- whether another text is this one
abbrev pub is_text : List ℕ → List ℕ → Bool
is_text text other = same_text other text

-- a name at the end of some names, unless it stands there
abbrev pub with_name : List (List ℕ) → List ℕ → List (List ℕ)
with_name names name = with_item same_text names name

-- the names met so far, and that of a token, where it is a variable
abbrev pub names_after : List (List ℕ) → Terminal → Lexeme → List (List ℕ)
names_after names terminals.Variable token = with_name names (name_of token)
names_after names _ token = names

-- the names of the variables among tokens, each once, in the order in which they first occur
unfoldable pub names_of : List Labelled → List (List ℕ)
names_of labelled = fold (λ names l. names_after names (terminal_of l.token) l.token) [] labelled

-- a prefix, and the characters of the IRI for which it stands
pub record Namespace : Type 0 where
  pub prefix : List ℕ
  pub iri : List ℕ

abbrev pub namespace_with : List ℕ → List ℕ → Namespace
namespace_with prefix iri = record { prefix = prefix; iri = iri }

-- the prefix of a declaration whose IRI is not read yet, and the declarations so far, in the order of the text
pub record Declarations : Type 0 where
  pub prefix : Option (List ℕ)
  pub namespaces : List Namespace

-- with the IRI of a declaration whose prefix is read, if one is
abbrev pub with_namespace : List Namespace → Option (List ℕ) → List ℕ → List Namespace
with_namespace namespaces None iri = namespaces
with_namespace namespaces (Some prefix) iri = namespaces ++ namespace_with prefix iri ∷ []

-- with one token more: the IRI of a declaration comes right after its prefix
abbrev pub declarations_after : Declarations → Role → Lexeme → Declarations
declarations_after d roles.Declared token = record { prefix = Some (prefix_of token); namespaces = d.namespaces }
declarations_after d roles.Namespace token = record { prefix = None; namespaces = with_namespace d.namespaces d.prefix (iri_of token) }
declarations_after d _ token = record { prefix = None; namespaces = d.namespaces }

abbrev pub no_declarations : Declarations
no_declarations = record { prefix = None; namespaces = [] }

-- the declarations among tokens
unfoldable pub declarations_of : List Labelled → Declarations
declarations_of labelled = fold (λ d l. declarations_after d l.role l.token) no_declarations labelled

abbrev pub namespaces_of : List Labelled → List Namespace
namespaces_of labelled = (declarations_of labelled).namespaces

-- the IRI for which a prefix stands, if it is declared: a later declaration replaces an earlier one
abbrev pub namespace_of : List Namespace → List ℕ → Option (List ℕ)
namespace_of namespaces prefix = option_map (λ n. n.iri) (find (λ n. is_text prefix n.prefix) (reverse namespaces))
