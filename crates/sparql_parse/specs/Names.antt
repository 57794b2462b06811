-- The variables of a query: their names, and their numbers. SPARQL 1.1 Query, section 4.1.3.
use Rattle.std.specs.Prelude.{◌≡◌, ℕ, Bool, true, false, ◌==◌, if◌then◌else◌, List, [], ◌∷◌, ◌++◌, Some, fold, filter, slice_get}
use Rattle.std.specs.Cmp.Lexicographic.{pointwise}
use Rattle.std.specs.List.{list_any}
use Rattle.query_tokens.specs.Token.{Lexeme}
use Rattle.query_grammar.specs.declared.terminal.Terminal.{Terminal}
use Rattle.query_grammar.specs.declared.terminal.Terminal.TheVariants as terminals
use Rattle.query_grammar.specs.Terminals.{terminal_of}
use Rattle.query_grammar.specs.Roles.{Labelled, tokens_of}
use Rattle.query_values.specs.Variables.{SpellsVariable}
use Rattle.sparql_parse.specs.OneByOne.{OneByOne}

-- whether two texts are one
abbrev pub same_text : List ℕ → List ℕ → Bool
same_text text other = pointwise ◌==◌ text other

-- an item at the end of some items, unless it stands there
abbrev pub with_item : {A : Type 0} → (A → A → Bool) → List A → A → List A
with_item same items item = if list_any (λ other. same other item) items then items else items ++ item ∷ []

-- items, each once, in the order in which they first occur
abbrev pub first_of_each : {A : Type 0} → (A → A → Bool) → List A → List A
first_of_each same items = fold (with_item same) [] items

-- the terminal symbol of variables
abbrev pub is_variable : Terminal → Bool
is_variable terminals.Variable = true
is_variable _ = false

-- the variables among tokens, as often as they occur
abbrev pub variables_of : List Labelled → List Lexeme
variables_of tokens = filter (λ token. is_variable (terminal_of token)) (tokens_of tokens)

-- the names of the variables among tokens: each once, in the order in which they first occur
pub record AreNames (tokens : List Labelled) (names : List (List ℕ)) : Type 0 where
  pub occurring : List (List ℕ)
  pub spelled : OneByOne SpellsVariable (variables_of tokens) occurring
  pub once : names ≡ first_of_each same_text occurring

-- a variable has the number of the place at which its name is listed, from 0
pub record HasNumber (names : List (List ℕ)) (token : Lexeme) (number : ℕ) : Type 0 where
  pub name : List ℕ
  pub spelled : SpellsVariable token name
  pub listed : slice_get names number ≡ Some name
