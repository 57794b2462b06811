-- Carries proofs only: what is built of a query after its tokens, read one by one in their roles. All that counts is which
-- groups are open, and the triple pattern that is read.
use Rattle.std.specs.Prelude.{◌≡◌, ℕ, ◌+◌, Bool, true, false, if◌then◌else◌, List, [], ◌∷◌, ◌++◌, fold, codes, Option, Some, None}
use Rattle.query_tokens.specs.Token.{Lexeme}
use Rattle.query_tokens.specs.declared.token.TokenKind.TheVariants as kinds
use Rattle.alg_model.specs.declared.pattern.TriplePat.{TriplePat}
use Rattle.alg_model.specs.Pattern.{Algebra, Bgp, Join, LeftJoin, vars_of}
use Rattle.query_grammar.specs.declared.terminal.Terminal.{Terminal}
use Rattle.query_grammar.specs.declared.terminal.Terminal.TheVariants as terminals
use Rattle.query_grammar.specs.declared.syntax.Role.{Role}
use Rattle.query_grammar.specs.declared.syntax.Role.TheVariants as roles
use Rattle.query_grammar.specs.Terminals.{terminal_of}
use Rattle.query_grammar.specs.Roles.{Labelled}
use Rattle.query_grammar.specs.Tree.{Syntax, Node, VariableNode, IriNode, StringNode, TaggedNode, TypedNode, NumberNode, BooleanNode, TypeNode}
use Rattle.query_values.specs.reading.Values.{name_of}
use Rattle.sparql_parse.specs.computed.Meaning.{Scope, place_of, number_of, with_number, each_first, pattern_of, columns_of}
use Rattle.sparql_parse.specs.Translation.{NodeTriple}

-- the node that begins with a token
abbrev pub node_of : Terminal → Lexeme → Node
node_of terminals.Variable token = VariableNode token
node_of terminals.Iri token = IriNode token
node_of terminals.Prefixed token = IriNode token
node_of terminals.Prefix token = IriNode token
node_of terminals.Quoted token = StringNode token
node_of terminals.Number token = NumberNode token
node_of terminals.Boolean token = BooleanNode token
node_of _ token = TypeNode token

-- a string with the tag after it
abbrev pub with_tag_text : Lexeme → Node → Node
with_tag_text tag (StringNode token) = TaggedNode token tag
with_tag_text tag node = node

abbrev pub with_tag : Terminal → Lexeme → Node → Node
with_tag terminals.Tag tag node = with_tag_text tag node
with_tag _ tag node = node

-- a string with the datatype after it
abbrev pub with_iri : Lexeme → Node → Node
with_iri datatype (StringNode token) = TypedNode token datatype
with_iri datatype node = node

abbrev pub with_datatype : Terminal → Lexeme → Node → Node
with_datatype terminals.Iri datatype node = with_iri datatype node
with_datatype terminals.Prefixed datatype node = with_iri datatype node
with_datatype terminals.Prefix datatype node = with_iri datatype node
with_datatype _ datatype node = node

-- a group that is open: its pattern up to its last block, the triple patterns of that block so far, and whether
-- it is OPTIONAL
pub record OpenGroup : Type 0 where
  pub pattern : Algebra
  pub block : List TriplePat
  pub optional : Bool

abbrev pub new_group : Bool → OpenGroup
new_group optional = record { pattern = Bgp []; block = []; optional = optional }

-- the pattern with a block after it, if there is one
abbrev pub joined_block : Algebra → List TriplePat → Algebra
joined_block pattern [] = pattern
joined_block pattern (t ∷ ts) = Join pattern (Bgp (t ∷ ts))

abbrev pub pattern_so_far : OpenGroup → Algebra
pattern_so_far g = joined_block g.pattern g.block

-- the open groups, the innermost first, the number of the next triple pattern, and the pattern of the query's
-- group once that is closed
pub record Body : Type 0 where
  pub groups : List OpenGroup
  pub next : ℕ
  pub whole : Algebra

-- a group that is opened
abbrev pub opened : Bool → Body → Body
opened optional b = record b { groups = new_group optional ∷ b.groups }

-- a pattern with that of a group in it: LeftJoin for OPTIONAL, else Join
abbrev pub combined : Bool → Algebra → Algebra → Algebra
combined optional left right = if optional then LeftJoin left right else Join left right

abbrev pub with_group : OpenGroup → OpenGroup → OpenGroup
with_group outer inner =
    record { pattern = combined inner.optional (pattern_so_far outer) (pattern_so_far inner); block = []; optional = outer.optional }

-- the innermost group, which is closed
abbrev pub closed_groups : List OpenGroup → Body → Body
closed_groups [] b = b
closed_groups (g ∷ []) b = record { groups = []; next = b.next; whole = pattern_so_far g }
closed_groups (g ∷ outer ∷ gs) b = record b { groups = with_group outer g ∷ gs }

abbrev pub closed : Body → Body
closed b = closed_groups b.groups b

-- a triple pattern at the end of the innermost group's block
abbrev pub pattern_at : Scope → ℕ → NodeTriple → TriplePat
pattern_at scope n t = record { subject = place_of scope t.subject; predicate = place_of scope t.verb; object = place_of scope t.object; number = n }

abbrev pub with_pattern : TriplePat → OpenGroup → OpenGroup
with_pattern t g = record g { block = g.block ++ t ∷ [] }

abbrev pub in_innermost : TriplePat → List OpenGroup → List OpenGroup
in_innermost t [] = []
in_innermost t (g ∷ gs) = with_pattern t g ∷ gs

abbrev pub with_triple : Scope → NodeTriple → Body → Body
with_triple scope t b = record { groups = in_innermost (pattern_at scope b.next t) b.groups; next = b.next + 1; whole = b.whole }

-- the SELECT clause: whether DISTINCT stands in it, whether it has `*`, and the numbers of its variables
pub record Head : Type 0 where
  pub distinct : Bool
  pub all : Bool
  pub columns : List ℕ

-- what is built so far. The object that was read last is not in the body yet, as a tag or a datatype may follow.
pub record State : Type 0 where
  pub head : Head
  pub body : Body
  pub optional : Bool
  pub subject : Node
  pub verb : Node
  pub object : Option Node

-- a body with the triple pattern of an object, if there is one
abbrev pub with_object : Scope → Node → Node → Body → Option Node → Body
with_object scope subject verb body None = body
with_object scope subject verb body (Some object) = with_triple scope (record { subject = subject; verb = verb; object = object }) body

-- the body with the object that was read last
abbrev pub body_of : Scope → State → Body
body_of scope s = with_object scope s.subject s.verb s.body s.object

abbrev pub settled : Scope → State → State
settled scope s = record { head = s.head; body = body_of scope s; optional = s.optional; subject = s.subject; verb = s.verb; object = None }

-- the number of the next triple pattern, once the last object is in the body
abbrev pub waiting : Option Node → ℕ
waiting None = 0
waiting (Some object) = 1

abbrev pub next_settled : State → ℕ
next_settled s = s.body.next + waiting s.object

-- the object that was read last is amended, or the subject where there is none
abbrev pub amended : (Node → Node) → State → Option Node → State
amended f s None = record s { subject = f s.subject }
amended f s (Some object) = record s { object = Some (f object) }

abbrev pub with_column : Scope → Lexeme → Head → Head
with_column scope token head = record head { columns = with_number head.columns (number_of scope.names (name_of token)) }

-- a token in its role
abbrev pub in_role : Scope → State → Role → Terminal → Lexeme → State
in_role scope s roles.Distinct terminal token = record s { head = record { distinct = true; all = s.head.all; columns = s.head.columns } }
in_role scope s roles.AllColumns terminal token = record s { head = record { distinct = s.head.distinct; all = true; columns = s.head.columns } }
in_role scope s roles.Column terminal token = record s { head = with_column scope token s.head }
in_role scope s roles.Optional terminal token = record s { optional = true }
in_role scope s roles.Open terminal token = record (settled scope s) { body = opened s.optional (body_of scope s); optional = false }
in_role scope s roles.Close terminal token = record (settled scope s) { body = closed (body_of scope s) }
in_role scope s roles.Subject terminal token = record (settled scope s) { subject = node_of terminal token }
in_role scope s roles.Verb terminal token = record (settled scope s) { verb = node_of terminal token }
in_role scope s roles.Object terminal token = record (settled scope s) { object = Some (node_of terminal token) }
in_role scope s roles.Tag terminal token = amended (with_tag terminal token) s s.object
in_role scope s roles.Datatype terminal token = amended (with_datatype terminal token) s s.object
in_role scope s _ terminal token = s

unfoldable pub step : Scope → State → Labelled → State
step scope s l = in_role scope s l.role (terminal_of l.token) l.token

-- the state after some tokens
abbrev pub built : Scope → State → List Labelled → State
built scope s labelled = fold (step scope) s labelled

abbrev pub no_columns : Head
no_columns = record { distinct = false; all = false; columns = [] }

-- what stands where no subject and no verb is read yet
abbrev pub no_node : Node
no_node = TypeNode (record { kind = kinds.Word; text = codes "a"; at = 0 })

-- before the first token
abbrev pub start : State
start = record {
  head = no_columns;
  body = record { groups = []; next = 1; whole = Bgp [] };
  optional = false;
  subject = no_node;
  verb = no_node;
  object = None;
}

-- the columns: all variables of the pattern, or those of SELECT
abbrev pub columns_after : Algebra → Head → List ℕ
columns_after pattern head = if head.all then each_first (vars_of pattern) else head.columns

-- what is built is what a syntax tree means
pub record IsBuilt (scope : Scope) (tree : Syntax) (s : State) : Type 0 where
  pub pattern : s.body.whole ≡ pattern_of scope tree.group
  pub columns : columns_after s.body.whole s.head ≡ columns_of scope s.body.whole tree.columns
  pub distinct : s.head.distinct ≡ tree.distinct
