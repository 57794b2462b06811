-- Carries proofs only: what is built by the code, as it is computed, and the triple pattern that is read.
use Rattle.std.specs.Prelude.{◌≡◌, ◌+◌, ◌<◌, ◌^◌, map, Option, Some, None}
use Rattle.std.specs.Option.{option_map}
use Rattle.query_tokens.specs.Token.{Lexeme, shown}
use Rattle.alg_model.specs.Pattern.{algebra_of}
use Rattle.query_grammar.specs.Roles.{Labelled, with_role}
use Rattle.query_grammar.specs.Tree.{Node, Syntax}
use Rattle.sparql_parse.specs.declared.build.Builder.{Builder}
use Rattle.sparql_parse.specs.declared.build.Translation.{Translation}
use Rattle.sparql_parse.specs.declared.build.ReadToken.{ReadToken}
use Rattle.sparql_parse.specs.computed.Meaning.{Scope, pattern_of, columns_of}
use Rattle.query_grammar.specs.Terminals.{terminal_of}
use Rattle.query_grammar.specs.declared.syntax.Role.{Role}
use Rattle.query_values.specs.reading.Values.{IsSpelled}
use Rattle.sparql_parse.specs.computed.Building.{State, in_role}
use Rattle.sparql_parse.specs.held.Groups.{body_in}
use Rattle.sparql_parse.specs.held.Nodes.{IsSound, node_in}

abbrev pub state_in : Builder → State
state_in b = record {
  head = record { distinct = b.distinct; all = b.all; columns = map (λ column. column.0) b.columns };
  body = body_in b.body;
  optional = b.optional;
  subject = node_in b.subject;
  verb = node_in b.verb;
  object = option_map node_in b.object;
}

-- a token in its role
abbrev pub labelled_in : ReadToken → Labelled
labelled_in l = with_role l.role (shown l.token)

-- the nodes of the triple pattern that is read
abbrev pub IsSoundObject : Option Node → Type 0
IsSoundObject (Some object) = IsSound object
IsSoundObject None = Unit {0}

pub record IsSoundState (s : State) : Type 0 where
  pub subject : IsSound s.subject
  pub verb : IsSound s.verb
  pub object : IsSoundObject s.object

-- a token may be taken: the nodes that are read have spelled tokens, one triple pattern more has a number, and the token
-- is spelled
pub record MayTake (s : State) (token : Lexeme) : Type 0 where
  pub sound : IsSoundState s
  pub few : s.body.next + 1 < 2 ^ 16
  pub spelled : IsSpelled token

-- it is taken in its role, and the nodes still have spelled tokens
pub record IsTaken (scope : Scope) (old : State) (role : Role) (token : Lexeme) (new : State) : Type 0 where
  pub state : new ≡ in_role scope old role (terminal_of token) token
  pub sound : IsSoundState new

-- what a syntax tree means, over names and namespaces
pub record IsTranslation (scope : Scope) (tree : Syntax) (translation : Translation) : Type 0 where
  pub pattern : algebra_of translation.pattern ≡ pattern_of scope tree.group
  pub columns : map (λ column. column.0) translation.columns ≡ columns_of scope (algebra_of translation.pattern) tree.columns
  pub distinct : translation.distinct ≡ tree.distinct
