-- What is built after the tokens of each symbol of the grammar, from any state: a function of the state, whose
-- last object is in its body.
use Rattle.std.proofs.Common.{◌≡◌, Bool, true, false, List, [], ◌∷◌, Some, refl, ◌∙◌, ap, inl, inr}
use Rattle.query_tokens.specs.Token.{Lexeme}
use Rattle.query_grammar.specs.declared.terminal.Terminal.{Terminal}
use Rattle.query_grammar.specs.declared.terminal.Terminal.TheVariants as terminals
use Rattle.query_grammar.specs.declared.syntax.Role.{Role}
use Rattle.query_grammar.specs.declared.syntax.Role.TheVariants as roles
use Rattle.query_grammar.specs.Terminals.{terminal_of}
use Rattle.query_grammar.specs.Roles.{Labelled, with_role}
use Rattle.query_grammar.specs.Tree.{Node, VariableNode, IriNode, StringNode, TaggedNode, TypedNode, NumberNode, BooleanNode, TypeNode, Property, Same, Elements, EndOfGroup, Element, OptionalGroup, NestedGroup, Group, Declaration, Columns, AllColumns, Variables, Syntax}
use Rattle.query_grammar.specs.Grammar.{Spelling, ◌▸◌, Nothing, Maybe, Many, none, more, Token, SomeToken, Keyword, IsIri, IsNode, IsVerb, AreMoreObjects, AreObjects, IsProperty, Semicolons, AreMoreProperties, AreProperties, IsSame, AreMoreSames, IsBlock, InBraces, AreElements, IsGroup, AreMoreVariables, AreColumns, IsDistinct, IsDeclaration, IsPrologue, SpellsQuery}
use Rattle.sparql_parse.specs.computed.Meaning.{Scope}
use Rattle.sparql_parse.specs.computed.Building.{State, step, in_role, built, settled, opened, closed, with_triple, with_column}

step-in : (scope : Scope) (s : State) (role : Role) (token : Lexeme) → step scope s (with_role role token) ≡ in_role scope s role (terminal_of token) token
unfolding step
step-in scope s role token = refl

-- one token
pub token-run : (scope : Scope) (s : State) (terminal : Terminal) (role : Role) (token : Lexeme) (from to : List Labelled) →
    Token terminal role token from to → built scope s from ≡ built scope (in_role scope s role terminal token) to
token-run scope s terminal role token from to (is, from_is) =
    ap (built scope s) from_is
    ∙ ap (λ (e : State). built scope e to) (step-in scope s role token)
    ∙ ap (λ (k : Terminal). built scope (in_role scope s role k token) to) is

-- the tokens lead to a state, which is this one once its last object is in its body
pub record Ends (scope : Scope) (s : State) (from to : List Labelled) (t : State) : Type 0 where
  pub end : State
  pub run : built scope s from ≡ built scope end to
  pub settled_is : settled scope end ≡ t

-- what a symbol does, from any state
abbrev pub Does : Scope → Spelling → (State → State) → Type 0
Does scope symbol effect = (from to : List Labelled) (s : State) → symbol from to → Ends scope s from to (effect (settled scope s))

pub ends-then : (scope : Scope) (s : State) (from middle to : List Labelled) (t : State) (g : State → State) → (front : Ends scope s from middle t) →
    Ends scope front.end middle to (g (settled scope front.end)) → Ends scope s from to (g t)
ends-then scope s from middle to t g front back = record {
  end = back.end;
  run = front.run ∙ back.run;
  settled_is = back.settled_is ∙ ap g front.settled_is;
}

-- one symbol after the other
pub then : (scope : Scope) (first second : Spelling) (f g : State → State) → Does scope first f → Does scope second g → Does scope (first ▸ second) (λ t. g (f t))
then scope first second f g does_first does_second from to s (middle, one, two) =
    let front = does_first from middle s one in
    ends-then scope s from middle to (f (settled scope s)) g front (does_second middle to front.end two)

abbrev pub same_state : State → State
same_state t = t

pub nothing-does : (scope : Scope) → Does scope Nothing same_state
nothing-does scope from to s e = record { end = s; run = ap (built scope s) e; settled_is = refl }

pub keyword-does : (scope : Scope) (terminal : Terminal) → Does scope (Keyword terminal) same_state
keyword-does scope terminal from to s (token, is) =
    record { end = s; run = token-run scope s terminal roles.Keyword token from to is; settled_is = refl }

pub maybe-does : (scope : Scope) (terminal : Terminal) → Does scope (Maybe (Keyword terminal)) same_state
maybe-does scope terminal from to s is = elim is [ inl here ↦ keyword-does scope terminal from to s here | inr e ↦ nothing-does scope from to s e ]

pub many-does : (scope : Scope) (terminal : Terminal) → Does scope (Many (Keyword terminal)) same_state
many-does scope terminal from to s (none here) = record { end = s; run = refl; settled_is = refl }
many-does scope terminal from to s (more start middle finish first rest) =
    let front = keyword-does scope terminal start middle s first in
    ends-then scope s start middle finish (settled scope s) same_state front (many-does scope terminal middle finish front.end rest)

-- the iri of a subject, a verb or an object
pub iri-run : (scope : Scope) (s : State) (role : Role) (token : Lexeme) (e : State) (from to : List Labelled) →
    in_role scope s role terminals.Iri token ≡ e → in_role scope s role terminals.Prefixed token ≡ e → in_role scope s role terminals.Prefix token ≡ e →
    IsIri role token from to → built scope s from ≡ built scope e to
iri-run scope s role token e from to a b c is =
    elim is [
      | inl here ↦ token-run scope s terminals.Iri role token from to here ∙ ap (λ (x : State). built scope x to) a
      | inr other ↦ elim other [
        | inl here ↦ token-run scope s terminals.Prefixed role token from to here ∙ ap (λ (x : State). built scope x to) b
        | inr here ↦ token-run scope s terminals.Prefix role token from to here ∙ ap (λ (x : State). built scope x to) c
      ]
    ]

-- after a subject, a verb and an object
abbrev pub with_subject : Node → State → State
with_subject node t = record t { subject = node }

abbrev pub with_verb : Node → State → State
with_verb node t = record t { verb = node }

abbrev pub pending : Node → State → State
pending node t = record t { object = Some node }

pub subject-run : (scope : Scope) (s : State) (node : Node) (from to : List Labelled) →
    IsNode roles.Subject node from to → built scope s from ≡ built scope (with_subject node (settled scope s)) to
subject-run scope s (VariableNode token) from to is = token-run scope s terminals.Variable roles.Subject token from to is
subject-run scope s (IriNode token) from to is = iri-run scope s roles.Subject token (with_subject (IriNode token) (settled scope s)) from to refl refl refl is
subject-run scope s (StringNode token) from to is = token-run scope s terminals.Quoted roles.Subject token from to is
subject-run scope s (TaggedNode token tag) from to (middle, one, two) =
    token-run scope s terminals.Quoted roles.Subject token from middle one
    ∙ token-run scope (with_subject (StringNode token) (settled scope s)) terminals.Tag roles.Tag tag middle to two
subject-run scope s (TypedNode token iri) from to (middle, one, (after, (carets, two), three)) =
    let e = with_subject (StringNode token) (settled scope s) in
    token-run scope s terminals.Quoted roles.Subject token from middle one
    ∙ token-run scope e terminals.Carets roles.Keyword carets middle after two
    ∙ iri-run scope e roles.Datatype iri (with_subject (TypedNode token iri) (settled scope s)) after to refl refl refl three
subject-run scope s (NumberNode token) from to is = token-run scope s terminals.Number roles.Subject token from to is
subject-run scope s (BooleanNode token) from to is = token-run scope s terminals.Boolean roles.Subject token from to is
subject-run scope s (TypeNode token) from to is = absurd is

pub object-run : (scope : Scope) (s : State) (node : Node) (from to : List Labelled) →
    IsNode roles.Object node from to → built scope s from ≡ built scope (pending node (settled scope s)) to
object-run scope s (VariableNode token) from to is = token-run scope s terminals.Variable roles.Object token from to is
object-run scope s (IriNode token) from to is = iri-run scope s roles.Object token (pending (IriNode token) (settled scope s)) from to refl refl refl is
object-run scope s (StringNode token) from to is = token-run scope s terminals.Quoted roles.Object token from to is
object-run scope s (TaggedNode token tag) from to (middle, one, two) =
    token-run scope s terminals.Quoted roles.Object token from middle one
    ∙ token-run scope (pending (StringNode token) (settled scope s)) terminals.Tag roles.Tag tag middle to two
object-run scope s (TypedNode token iri) from to (middle, one, (after, (carets, two), three)) =
    let e = pending (StringNode token) (settled scope s) in
    token-run scope s terminals.Quoted roles.Object token from middle one
    ∙ token-run scope e terminals.Carets roles.Keyword carets middle after two
    ∙ iri-run scope e roles.Datatype iri (pending (TypedNode token iri) (settled scope s)) after to refl refl refl three
object-run scope s (NumberNode token) from to is = token-run scope s terminals.Number roles.Object token from to is
object-run scope s (BooleanNode token) from to is = token-run scope s terminals.Boolean roles.Object token from to is
object-run scope s (TypeNode token) from to is = absurd is

pub verb-run : (scope : Scope) (s : State) (node : Node) (from to : List Labelled) →
    IsVerb node from to → built scope s from ≡ built scope (with_verb node (settled scope s)) to
verb-run scope s (VariableNode token) from to is = token-run scope s terminals.Variable roles.Verb token from to is
verb-run scope s (IriNode token) from to is = iri-run scope s roles.Verb token (with_verb (IriNode token) (settled scope s)) from to refl refl refl is
verb-run scope s (TypeNode token) from to is = token-run scope s terminals.A roles.Verb token from to is
verb-run scope s (StringNode token) from to is = absurd is
verb-run scope s (TaggedNode token tag) from to is = absurd is
verb-run scope s (TypedNode token iri) from to is = absurd is
verb-run scope s (NumberNode token) from to is = absurd is
verb-run scope s (BooleanNode token) from to is = absurd is

-- the triple pattern of an object
abbrev pub after_object : Scope → Node → State → State
after_object scope node t = record t { body = with_triple scope (record { subject = t.subject; verb = t.verb; object = node }) t.body }

abbrev pub after_objects : Scope → List Node → State → State
after_objects scope [] t = t
after_objects scope (node ∷ nodes) t = after_objects scope nodes (after_object scope node t)

abbrev pub after_property : Scope → Property → State → State
after_property scope property t = after_objects scope property.objects (with_verb property.verb t)

abbrev pub after_properties : Scope → List Property → State → State
after_properties scope [] t = t
after_properties scope (property ∷ properties) t = after_properties scope properties (after_property scope property t)

abbrev pub after_same : Scope → Same → State → State
after_same scope same t = after_properties scope same.properties (with_subject same.subject t)

abbrev pub after_block : Scope → List Same → State → State
after_block scope [] t = t
after_block scope (same ∷ block) t = after_block scope block (after_same scope same t)

subject-does : (scope : Scope) (node : Node) → Does scope (IsNode roles.Subject node) (with_subject node)
subject-does scope node from to s is = record { end = with_subject node (settled scope s); run = subject-run scope s node from to is; settled_is = refl }

verb-does : (scope : Scope) (node : Node) → Does scope (IsVerb node) (with_verb node)
verb-does scope node from to s is = record { end = with_verb node (settled scope s); run = verb-run scope s node from to is; settled_is = refl }

object-does : (scope : Scope) (node : Node) → Does scope (IsNode roles.Object node) (after_object scope node)
object-does scope node from to s is = record { end = pending node (settled scope s); run = object-run scope s node from to is; settled_is = refl }

more_objects-does : (scope : Scope) (nodes : List Node) → Does scope (AreMoreObjects nodes) (after_objects scope nodes)
more_objects-does scope [] = nothing-does scope
more_objects-does scope (node ∷ nodes) =
    let rest = then scope (IsNode roles.Object node) (AreMoreObjects nodes) (after_object scope node) (after_objects scope nodes) (object-does scope node) (more_objects-does scope nodes) in
    then scope (Keyword terminals.Comma) (IsNode roles.Object node ▸ AreMoreObjects nodes) same_state (after_objects scope (node ∷ nodes)) (keyword-does scope terminals.Comma) rest

objects-does : (scope : Scope) (nodes : List Node) → Does scope (AreObjects nodes) (after_objects scope nodes)
objects-does scope [] from to s is = absurd is
objects-does scope (node ∷ nodes) from to s is = then scope (IsNode roles.Object node) (AreMoreObjects nodes) (after_object scope node) (after_objects scope nodes) (object-does scope node) (more_objects-does scope nodes) from to s is

property-does : (scope : Scope) (property : Property) → Does scope (IsProperty property) (after_property scope property)
property-does scope property = then scope (IsVerb property.verb) (AreObjects property.objects) (with_verb property.verb) (after_objects scope property.objects) (verb-does scope property.verb) (objects-does scope property.objects)

more_properties-does : (scope : Scope) (properties : List Property) → Does scope (AreMoreProperties properties) (after_properties scope properties)
more_properties-does scope [] = many-does scope terminals.Semicolon
more_properties-does scope (property ∷ properties) =
    let last = then scope (IsProperty property) (AreMoreProperties properties) (after_property scope property) (after_properties scope properties) (property-does scope property) (more_properties-does scope properties) in
    let signs = then scope (Keyword terminals.Semicolon) (Many (Keyword terminals.Semicolon)) same_state same_state (keyword-does scope terminals.Semicolon) (many-does scope terminals.Semicolon) in
    then scope Semicolons (IsProperty property ▸ AreMoreProperties properties) same_state (after_properties scope (property ∷ properties)) signs last

properties-does : (scope : Scope) (properties : List Property) → Does scope (AreProperties properties) (after_properties scope properties)
properties-does scope [] from to s is = absurd is
properties-does scope (property ∷ properties) from to s is = then scope (IsProperty property) (AreMoreProperties properties) (after_property scope property) (after_properties scope properties) (property-does scope property) (more_properties-does scope properties) from to s is

same-does : (scope : Scope) (same : Same) → Does scope (IsSame same) (after_same scope same)
same-does scope same = then scope (IsNode roles.Subject same.subject) (AreProperties same.properties) (with_subject same.subject) (after_properties scope same.properties) (subject-does scope same.subject) (properties-does scope same.properties)

more_sames-does : (scope : Scope) (block : List Same) → Does scope (AreMoreSames block) (after_block scope block)
more_sames-does scope [] = maybe-does scope terminals.Stop
more_sames-does scope (same ∷ block) =
    let rest = then scope (IsSame same) (AreMoreSames block) (after_same scope same) (after_block scope block) (same-does scope same) (more_sames-does scope block) in
    then scope (Keyword terminals.Stop) (IsSame same ▸ AreMoreSames block) same_state (after_block scope (same ∷ block)) (keyword-does scope terminals.Stop) rest

pub block-does : (scope : Scope) (block : List Same) → Does scope (IsBlock block) (after_block scope block)
block-does scope [] = nothing-does scope
block-does scope (same ∷ block) = then scope (IsSame same) (AreMoreSames block) (after_same scope same) (after_block scope block) (same-does scope same) (more_sames-does scope block)

-- groups
abbrev pub after_optional : State → State
after_optional t = record t { optional = true }

abbrev pub after_open : State → State
after_open t = record t { body = opened t.optional t.body; optional = false }

abbrev pub after_close : State → State
after_close t = record t { body = closed t.body }

abbrev pub after_elements : Scope → Elements → State → State
after_elements scope EndOfGroup t = t
after_elements scope (Element OptionalGroup block elements next rest) t =
    after_elements scope rest (after_block scope next (after_close (after_elements scope elements (after_block scope block (after_open (after_optional t))))))
after_elements scope (Element NestedGroup block elements next rest) t =
    after_elements scope rest (after_block scope next (after_close (after_elements scope elements (after_block scope block (after_open t)))))

optional-does : (scope : Scope) → Does scope (SomeToken terminals.OptionalWord roles.Optional) after_optional
optional-does scope from to s (token, is) = record { end = after_optional s; run = token-run scope s terminals.OptionalWord roles.Optional token from to is; settled_is = refl }

open-does : (scope : Scope) → Does scope (SomeToken terminals.Open roles.Open) after_open
open-does scope from to s (token, is) = record { end = after_open (settled scope s); run = token-run scope s terminals.Open roles.Open token from to is; settled_is = refl }

close-does : (scope : Scope) → Does scope (SomeToken terminals.Close roles.Close) after_close
close-does scope from to s (token, is) = record { end = after_close (settled scope s); run = token-run scope s terminals.Close roles.Close token from to is; settled_is = refl }

pub braces-do : (scope : Scope) (inside : Spelling) (f : State → State) → Does scope inside f → Does scope (InBraces inside) (λ t. after_close (f (after_open t)))
braces-do scope inside f does =
    let rest = then scope inside (SomeToken terminals.Close roles.Close) f after_close does (close-does scope) in
    then scope (SomeToken terminals.Open roles.Open) (inside ▸ SomeToken terminals.Close roles.Close) after_open (λ t. after_close (f t)) (open-does scope) rest

abbrev pub after_inside : Scope → List Same → Elements → State → State
after_inside scope block elements t = after_elements scope elements (after_block scope block t)

inside-does : (scope : Scope) (block : List Same) (elements : Elements) → Does scope (AreElements elements) (after_elements scope elements) → Does scope (IsBlock block ▸ AreElements elements) (after_inside scope block elements)
inside-does scope block elements does = then scope (IsBlock block) (AreElements elements) (after_block scope block) (after_elements scope elements) (block-does scope block) does

-- an element's group, and what follows it
element-does : (scope : Scope) (block : List Same) (elements : Elements) (next : List Same) (rest : Elements) →
    Does scope (AreElements elements) (after_elements scope elements) → Does scope (AreElements rest) (after_elements scope rest) →
    Does scope (InBraces (IsBlock block ▸ AreElements elements) ▸ Maybe (Keyword terminals.Stop) ▸ IsBlock next ▸ AreElements rest)
    (λ t. after_elements scope rest (after_block scope next (after_close (after_inside scope block elements (after_open t)))))
element-does scope block elements next rest inner outer =
    let after = then scope (Maybe (Keyword terminals.Stop)) (IsBlock next ▸ AreElements rest) same_state (after_inside scope next rest) (maybe-does scope terminals.Stop) (inside-does scope next rest outer) in
    then scope (InBraces (IsBlock block ▸ AreElements elements)) (Maybe (Keyword terminals.Stop) ▸ IsBlock next ▸ AreElements rest)
    (λ t. after_close (after_inside scope block elements (after_open t))) (after_inside scope next rest)
    (braces-do scope (IsBlock block ▸ AreElements elements) (after_inside scope block elements) (inside-does scope block elements inner)) after

pub elements-do : (scope : Scope) (elements : Elements) → Does scope (AreElements elements) (after_elements scope elements)
elements-do scope EndOfGroup = nothing-does scope
elements-do scope (Element OptionalGroup block elements next rest) =
    let element = element-does scope block elements next rest (elements-do scope elements) (elements-do scope rest) in
    then scope (SomeToken terminals.OptionalWord roles.Optional) (InBraces (IsBlock block ▸ AreElements elements) ▸ Maybe (Keyword terminals.Stop) ▸ IsBlock next ▸ AreElements rest)
    after_optional (after_elements scope (Element NestedGroup block elements next rest)) (optional-does scope) element
elements-do scope (Element NestedGroup block elements next rest) = element-does scope block elements next rest (elements-do scope elements) (elements-do scope rest)

abbrev pub after_group : Scope → Group → State → State
after_group scope group t = after_close (after_inside scope group.block group.elements (after_open t))

pub group-does : (scope : Scope) (group : Group) → Does scope (IsGroup group) (after_group scope group)
group-does scope group = braces-do scope (IsBlock group.block ▸ AreElements group.elements) (after_inside scope group.block group.elements) (inside-does scope group.block group.elements (elements-do scope group.elements))

-- the SELECT clause
abbrev pub after_column : Scope → Lexeme → State → State
after_column scope token t = record t { head = with_column scope token t.head }

abbrev pub after_variables : Scope → List Lexeme → State → State
after_variables scope [] t = t
after_variables scope (token ∷ tokens) t = after_variables scope tokens (after_column scope token t)

abbrev pub after_columns : Scope → Columns → State → State
after_columns scope AllColumns t = record t { head = record { distinct = t.head.distinct; all = true; columns = t.head.columns } }
after_columns scope (Variables tokens) t = after_variables scope tokens t

abbrev pub after_distinct : Bool → State → State
after_distinct true t = record t { head = record { distinct = true; all = t.head.all; columns = t.head.columns } }
after_distinct false t = t

column-does : (scope : Scope) (token : Lexeme) → Does scope (Token terminals.Variable roles.Column token) (after_column scope token)
column-does scope token from to s is = record { end = after_column scope token s; run = token-run scope s terminals.Variable roles.Column token from to is; settled_is = refl }

more_variables-do : (scope : Scope) (tokens : List Lexeme) → Does scope (AreMoreVariables tokens) (after_variables scope tokens)
more_variables-do scope [] = nothing-does scope
more_variables-do scope (token ∷ tokens) = then scope (Token terminals.Variable roles.Column token) (AreMoreVariables tokens) (after_column scope token) (after_variables scope tokens) (column-does scope token) (more_variables-do scope tokens)

columns-do : (scope : Scope) (columns : Columns) → Does scope (AreColumns columns) (after_columns scope columns)
columns-do scope AllColumns from to s (token, is) =
    record { end = after_columns scope AllColumns s; run = token-run scope s terminals.Star roles.AllColumns token from to is; settled_is = refl }
columns-do scope (Variables []) from to s is = absurd is
columns-do scope (Variables (token ∷ tokens)) from to s is =
    then scope (Token terminals.Variable roles.Column token) (AreMoreVariables tokens) (after_column scope token) (after_variables scope tokens) (column-does scope token) (more_variables-do scope tokens) from to s is

distinct-does : (scope : Scope) (distinct : Bool) → Does scope (IsDistinct distinct) (after_distinct distinct)
distinct-does scope true from to s (token, is) =
    record { end = after_distinct true s; run = token-run scope s terminals.DistinctWord roles.Distinct token from to is; settled_is = refl }
distinct-does scope false from to s e = nothing-does scope from to s e

-- the prologue changes nothing
prologue-does : (scope : Scope) (declarations : List Declaration) → Does scope (IsPrologue declarations) same_state
prologue-does scope [] = nothing-does scope
prologue-does scope (declaration ∷ declarations) =
    let prefix : Does scope (Token terminals.Prefix roles.Declared declaration.prefix) same_state =
    λ from to s is. record { end = s; run = token-run scope s terminals.Prefix roles.Declared declaration.prefix from to is; settled_is = refl } in
    let iri : Does scope (Token terminals.Iri roles.Namespace declaration.iri) same_state =
    λ from to s is. record { end = s; run = token-run scope s terminals.Iri roles.Namespace declaration.iri from to is; settled_is = refl } in
    let names = then scope (Token terminals.Prefix roles.Declared declaration.prefix) (Token terminals.Iri roles.Namespace declaration.iri) same_state same_state prefix iri in
    let one = then scope (Keyword terminals.PrefixWord) (Token terminals.Prefix roles.Declared declaration.prefix ▸ Token terminals.Iri roles.Namespace declaration.iri) same_state same_state (keyword-does scope terminals.PrefixWord) names in
    then scope (IsDeclaration declaration) (IsPrologue declarations) same_state same_state one (prologue-does scope declarations)

-- a query
abbrev pub after_query : Scope → Syntax → State → State
after_query scope tree t = after_group scope tree.group (after_columns scope tree.columns (after_distinct tree.distinct t))

pub query-does : (scope : Scope) (tree : Syntax) → Does scope (SpellsQuery tree) (after_query scope tree)
query-does scope tree =
    let group = IsGroup tree.group in
    let last = then scope (Maybe (Keyword terminals.WhereWord)) group same_state (after_group scope tree.group) (maybe-does scope terminals.WhereWord) (group-does scope tree.group) in
    let columns = then scope (AreColumns tree.columns) (Maybe (Keyword terminals.WhereWord) ▸ group) (after_columns scope tree.columns) (after_group scope tree.group) (columns-do scope tree.columns) last in
    let clause = then scope (IsDistinct tree.distinct) (AreColumns tree.columns ▸ Maybe (Keyword terminals.WhereWord) ▸ group) (after_distinct tree.distinct) (λ t. after_group scope tree.group (after_columns scope tree.columns t)) (distinct-does scope tree.distinct) columns in
    let select = then scope (Keyword terminals.SelectWord) (IsDistinct tree.distinct ▸ AreColumns tree.columns ▸ Maybe (Keyword terminals.WhereWord) ▸ group) same_state (after_query scope tree) (keyword-does scope terminals.SelectWord) clause in
    then scope (IsPrologue tree.declarations) (Keyword terminals.SelectWord ▸ IsDistinct tree.distinct ▸ AreColumns tree.columns ▸ Maybe (Keyword terminals.WhereWord) ▸ group) same_state (after_query scope tree) (prologue-does scope tree.declarations) select
