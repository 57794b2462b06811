-- The second layer of the grammar: what a query expects after its tokens, read one by one. All that counts is
-- what was read last, and how many groups are open. One function for each rule, in the order of the grammar.
use Rattle.std.specs.Prelude.{◌≡◌, ◌≢◌, ◌⊎◌, ◌<◌, ℕ, zero, suc, List, [], ◌∷◌, Option, Some, None, option_and_then, length, take}
use Rattle.query_tokens.specs.Token.{Lexeme}
use Rattle.query_grammar.specs.declared.terminal.Terminal.{Terminal}
use Rattle.query_grammar.specs.declared.terminal.Terminal.TheVariants as terminals
use Rattle.query_grammar.specs.declared.syntax.Role.{Role}
use Rattle.query_grammar.specs.declared.syntax.Role.TheVariants as roles
use Rattle.query_grammar.specs.declared.expect.Expect.{Expect}
use Rattle.query_grammar.specs.declared.expect.Expect.TheVariants.{Prologue, DeclaredPrefix, Namespace, Projection, Columns, MoreColumns, WhereOrGroup, Group, Block, AfterElement, AfterSubjectString, SubjectDatatype, Verb, Object, AfterObjectString, ObjectDatatype, AfterObject, AfterSemicolon, End}
use Rattle.query_grammar.specs.declared.expect.State.{State}
use Rattle.query_grammar.specs.declared.expect.Step.{Step}
use Rattle.query_grammar.specs.Terminals.{terminal_of}
use Rattle.query_grammar.specs.Roles.{Labelled, tokens_of, with_role}

abbrev pub state_of : Expect → ℕ → State
state_of expect groups = record { expect = expect; groups = groups }

-- where a query stands before its first token
abbrev pub start : State
start = state_of Prologue 0

-- where a query stands after its last token
abbrev pub ended : State
ended = state_of End 0

-- a token that is read in this role: what is expected after it, and how many groups are open there
abbrev pub reads : Role → Expect → ℕ → Option Step
reads role expect groups = Some (record { state = state_of expect groups; role = role })

-- prologue ::= ('PREFIX' prefix IRI)*, and SELECT after it
abbrev pub prologue_step : ℕ → Terminal → Option Step
prologue_step n terminals.PrefixWord = reads roles.Keyword DeclaredPrefix n
prologue_step n terminals.SelectWord = reads roles.Keyword Projection n
prologue_step n _ = None

abbrev pub declared_prefix_step : ℕ → Terminal → Option Step
declared_prefix_step n terminals.Prefix = reads roles.Declared Namespace n
declared_prefix_step n _ = None

abbrev pub namespace_step : ℕ → Terminal → Option Step
namespace_step n terminals.Iri = reads roles.Namespace Prologue n
namespace_step n _ = None

-- variable+ | '*'
abbrev pub columns_step : ℕ → Terminal → Option Step
columns_step n terminals.Variable = reads roles.Column MoreColumns n
columns_step n terminals.Star = reads roles.AllColumns WhereOrGroup n
columns_step n _ = None

-- 'DISTINCT'? (variable+ | '*')
abbrev pub projection_step : ℕ → Terminal → Option Step
projection_step n terminals.DistinctWord = reads roles.Distinct Columns n
projection_step n terminal = columns_step n terminal

-- the '{' of a group
abbrev pub group_step : ℕ → Terminal → Option Step
group_step n terminals.Open = reads roles.Open Block (suc n)
group_step n _ = None

-- 'WHERE'? group
abbrev pub where_step : ℕ → Terminal → Option Step
where_step n terminals.WhereWord = reads roles.Keyword Group n
where_step n terminal = group_step n terminal

-- variable* 'WHERE'? group
abbrev pub more_columns_step : ℕ → Terminal → Option Step
more_columns_step n terminals.Variable = reads roles.Column MoreColumns n
more_columns_step n terminal = where_step n terminal

-- after the '}' of a group, round which n are open
abbrev pub outside : ℕ → State
outside zero = ended
outside (suc n) = state_of AfterElement (suc n)

-- after a '}', before which n groups are open
abbrev pub closed : ℕ → State
closed zero = ended
closed (suc n) = outside n

-- element ::= 'OPTIONAL' group | group, or the end of the group
abbrev pub element_step : ℕ → Terminal → Option Step
element_step n terminals.OptionalWord = reads roles.Optional Group n
element_step n terminals.Open = reads roles.Open Block (suc n)
element_step n terminals.Close = Some (record { state = closed n; role = roles.Close })
element_step n _ = None

-- block? (element '.'? block?)*, where a block begins with a subject
abbrev pub block_step : ℕ → Terminal → Option Step
block_step n terminals.Variable = reads roles.Subject Verb n
block_step n terminals.Iri = reads roles.Subject Verb n
block_step n terminals.Prefixed = reads roles.Subject Verb n
block_step n terminals.Prefix = reads roles.Subject Verb n
block_step n terminals.Quoted = reads roles.Subject AfterSubjectString n
block_step n terminals.Number = reads roles.Subject Verb n
block_step n terminals.Boolean = reads roles.Subject Verb n
block_step n terminal = element_step n terminal

-- '.'? block? (element '.'? block?)*
abbrev pub after_element_step : ℕ → Terminal → Option Step
after_element_step n terminals.Stop = reads roles.Keyword Block n
after_element_step n terminal = block_step n terminal

-- verb ::= variable | iri | 'a'
abbrev pub verb_step : ℕ → Terminal → Option Step
verb_step n terminals.Variable = reads roles.Verb Object n
verb_step n terminals.Iri = reads roles.Verb Object n
verb_step n terminals.Prefixed = reads roles.Verb Object n
verb_step n terminals.Prefix = reads roles.Verb Object n
verb_step n terminals.A = reads roles.Verb Object n
verb_step n _ = None

-- node ::= variable | iri | literal, as an object
abbrev pub object_step : ℕ → Terminal → Option Step
object_step n terminals.Variable = reads roles.Object AfterObject n
object_step n terminals.Iri = reads roles.Object AfterObject n
object_step n terminals.Prefixed = reads roles.Object AfterObject n
object_step n terminals.Prefix = reads roles.Object AfterObject n
object_step n terminals.Quoted = reads roles.Object AfterObjectString n
object_step n terminals.Number = reads roles.Object AfterObject n
object_step n terminals.Boolean = reads roles.Object AfterObject n
object_step n _ = None

-- the iri of a datatype, and what is expected after it
abbrev pub datatype_step : Expect → ℕ → Terminal → Option Step
datatype_step after n terminals.Iri = reads roles.Datatype after n
datatype_step after n terminals.Prefixed = reads roles.Datatype after n
datatype_step after n terminals.Prefix = reads roles.Datatype after n
datatype_step after n _ = None

-- (tag | '^^' iri)? after a string that is a subject
abbrev pub after_subject_string_step : ℕ → Terminal → Option Step
after_subject_string_step n terminals.Tag = reads roles.Tag Verb n
after_subject_string_step n terminals.Carets = reads roles.Keyword SubjectDatatype n
after_subject_string_step n terminal = verb_step n terminal

-- (';' (verb objects)?)*, and ('.' block?)? after it
abbrev pub after_objects_step : ℕ → Terminal → Option Step
after_objects_step n terminals.Semicolon = reads roles.Keyword AfterSemicolon n
after_objects_step n terminals.Stop = reads roles.Keyword Block n
after_objects_step n terminal = element_step n terminal

-- (',' node)*
abbrev pub after_object_step : ℕ → Terminal → Option Step
after_object_step n terminals.Comma = reads roles.Keyword Object n
after_object_step n terminal = after_objects_step n terminal

-- (tag | '^^' iri)? after a string that is an object
abbrev pub after_object_string_step : ℕ → Terminal → Option Step
after_object_string_step n terminals.Tag = reads roles.Tag AfterObject n
after_object_string_step n terminals.Carets = reads roles.Keyword ObjectDatatype n
after_object_string_step n terminal = after_object_step n terminal

-- (verb objects)? after a ';'
abbrev pub after_semicolon_step : ℕ → Terminal → Option Step
after_semicolon_step n terminals.Variable = reads roles.Verb Object n
after_semicolon_step n terminals.Iri = reads roles.Verb Object n
after_semicolon_step n terminals.Prefixed = reads roles.Verb Object n
after_semicolon_step n terminals.Prefix = reads roles.Verb Object n
after_semicolon_step n terminals.A = reads roles.Verb Object n
after_semicolon_step n terminal = after_objects_step n terminal

-- a token of this terminal symbol, where this is expected; nothing where no query goes on with it
abbrev pub step_at : Expect → ℕ → Terminal → Option Step
step_at Prologue n terminal = prologue_step n terminal
step_at DeclaredPrefix n terminal = declared_prefix_step n terminal
step_at Namespace n terminal = namespace_step n terminal
step_at Projection n terminal = projection_step n terminal
step_at Columns n terminal = columns_step n terminal
step_at MoreColumns n terminal = more_columns_step n terminal
step_at WhereOrGroup n terminal = where_step n terminal
step_at Group n terminal = group_step n terminal
step_at Block n terminal = block_step n terminal
step_at AfterElement n terminal = after_element_step n terminal
step_at AfterSubjectString n terminal = after_subject_string_step n terminal
step_at SubjectDatatype n terminal = datatype_step Verb n terminal
step_at Verb n terminal = verb_step n terminal
step_at Object n terminal = object_step n terminal
step_at AfterObjectString n terminal = after_object_string_step n terminal
step_at ObjectDatatype n terminal = datatype_step AfterObject n terminal
step_at AfterObject n terminal = after_object_step n terminal
step_at AfterSemicolon n terminal = after_semicolon_step n terminal
step_at End n terminal = None

unfoldable pub next_step : State → Terminal → Option Step
next_step state terminal = step_at state.expect state.groups terminal

-- what a run over tokens has read: the tokens with their roles, and where the query stands after them
pub record Progress : Type 0 where
  pub labelled : List Labelled
  pub state : State

-- a token that is read, before what is read after it
abbrev pub read_before : Role → Lexeme → Progress → Progress
read_before role token reading = record { labelled = with_role role token ∷ reading.labelled; state = reading.state }

abbrev pub reading_before : Role → Lexeme → Option Progress → Option Progress
reading_before role token (Some reading) = Some (read_before role token reading)
reading_before role token None = None

-- A run over tokens: each is read where the one before it led to. Nothing where some token is not read.
unfoldable pub read_tokens : State → List Lexeme → Option Progress
read_tokens state [] = Some (record { labelled = []; state = state })
read_tokens state (token ∷ tokens) =
    option_and_then (λ step. reading_before step.role token (read_tokens step.state tokens)) (next_step state (terminal_of token))

-- the tokens are read in these roles, to where nothing more is expected
pub record IsReadToEnd (labelled : List Labelled) : Type 0 where
  pub state : State
  pub run : read_tokens start (tokens_of labelled) ≡ Some (record { labelled = labelled; state = state })
  pub at_end : state.expect ≡ End

-- The run over tokens stops at number i, from 0: those before it are read, and it is not; at the end of the
-- tokens, where all are read and more is expected.
pub record StopsAt (tokens : List Lexeme) (i : ℕ) : Type 0 where
  pub reading : Progress
  pub before : read_tokens start (take i tokens) ≡ Some reading
  pub stops : (i < length tokens × (read_tokens start (take (suc i) tokens) ≡ None)) ⊎ ((i ≡ length tokens) × (reading.state.expect ≢ End))
