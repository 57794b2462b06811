-- The grammar of queries, production by production: which tokens, in which roles, spell a syntax tree.
-- SPARQL 1.1 Query, section 19.8.
use Rattle.std.specs.Prelude.{◌≡◌, ℕ, suc, ◌<◌, ◌⊎◌, Bool, true, false, List, [], ◌∷◌, ◌++◌, length, take}
use Rattle.query_tokens.specs.Token.{Lexeme}
use Rattle.query_grammar.specs.declared.terminal.Terminal.{Terminal}
use Rattle.query_grammar.specs.declared.terminal.Terminal.TheVariants as terminals
use Rattle.query_grammar.specs.declared.syntax.Role.{Role}
use Rattle.query_grammar.specs.declared.syntax.Role.TheVariants as roles
use Rattle.query_grammar.specs.Terminals.{terminal_of}
use Rattle.query_grammar.specs.Roles.{Labelled, tokens_of, with_role}
use Rattle.query_grammar.specs.Tree.{Node, VariableNode, IriNode, StringNode, TaggedNode, TypedNode, NumberNode, BooleanNode, TypeNode, Property, Same, Elements, EndOfGroup, Element, OptionalGroup, NestedGroup, Group, Declaration, Columns, AllColumns, Variables, Syntax}

-- What a symbol of the grammar spells: the labelled tokens from a place on begin with it, and what is left after it.
abbrev pub Spelling : Type 1
Spelling = List Labelled → List Labelled → Type 0

infixr 30 ◌▸◌
-- one after the other
abbrev pub ◌▸◌ : Spelling → Spelling → Spelling
◌▸◌ first second from to = (middle : List Labelled) × first from middle × second middle to

-- no token
abbrev pub Nothing : Spelling
Nothing from to = from ≡ to

-- no spelling
abbrev pub Never : Spelling
Never from to = ⊥

-- '?': once or not at all
abbrev pub Maybe : Spelling → Spelling
Maybe symbol from to = symbol from to ⊎ Nothing from to

-- '*': any number of times
pub data Many (symbol : Spelling) : List Labelled → List Labelled → Type 0 where
  none : (from : List Labelled) → Many symbol from from
  more : (from middle to : List Labelled) → symbol from middle → Many symbol middle to → Many symbol from to

-- this token, which is of a terminal symbol, in a role
abbrev pub Token : Terminal → Role → Lexeme → Spelling
Token terminal role token from to = (terminal_of token ≡ terminal) × (from ≡ with_role role token ∷ to)

-- some token of a terminal symbol
abbrev pub SomeToken : Terminal → Role → Spelling
SomeToken terminal role from to = (token : Lexeme) × Token terminal role token from to

abbrev pub Keyword : Terminal → Spelling
Keyword terminal = SomeToken terminal roles.Keyword

-- iri ::= IRI | prefixed name | prefix
abbrev pub IsIri : Role → Lexeme → Spelling
IsIri role token from to =
    Token terminals.Iri role token from to ⊎ (Token terminals.Prefixed role token from to ⊎ Token terminals.Prefix role token from to)

-- node ::= variable | iri | literal
-- literal ::= string (tag | '^^' iri)? | integer | decimal | double | 'true' | 'false'
abbrev pub IsNode : Role → Node → Spelling
IsNode role (VariableNode token) = Token terminals.Variable role token
IsNode role (IriNode token) = IsIri role token
IsNode role (StringNode token) = Token terminals.Quoted role token
IsNode role (TaggedNode token tag) = Token terminals.Quoted role token ▸ Token terminals.Tag roles.Tag tag
IsNode role (TypedNode token iri) = Token terminals.Quoted role token ▸ Keyword terminals.Carets ▸ IsIri roles.Datatype iri
IsNode role (NumberNode token) = Token terminals.Number role token
IsNode role (BooleanNode token) = Token terminals.Boolean role token
IsNode role (TypeNode token) = Never

-- verb ::= variable | iri | 'a'
abbrev pub IsVerb : Node → Spelling
IsVerb (VariableNode token) = Token terminals.Variable roles.Verb token
IsVerb (IriNode token) = IsIri roles.Verb token
IsVerb (TypeNode token) = Token terminals.A roles.Verb token
IsVerb _ = Never

-- items in a row, each after a separator, and what comes after the last of them
abbrev pub EachAfter : {A : Type 0} → Spelling → (A → Spelling) → Spelling → List A → Spelling
EachAfter separator item end [] = end
EachAfter separator item end (x ∷ xs) = separator ▸ item x ▸ EachAfter separator item end xs

-- (',' node)*
abbrev pub AreMoreObjects : List Node → Spelling
AreMoreObjects nodes = EachAfter (Keyword terminals.Comma) (IsNode roles.Object) Nothing nodes

-- objects ::= node (',' node)*
abbrev pub AreObjects : List Node → Spelling
AreObjects [] = Never
AreObjects (node ∷ nodes) = IsNode roles.Object node ▸ AreMoreObjects nodes

-- verb objects
abbrev pub IsProperty : Property → Spelling
IsProperty property = IsVerb property.verb ▸ AreObjects property.objects

-- ';'+
abbrev pub Semicolons : Spelling
Semicolons = Keyword terminals.Semicolon ▸ Many (Keyword terminals.Semicolon)

-- (';' (verb objects)?)*: semicolons before each verb, and at the end any number of them
abbrev pub AreMoreProperties : List Property → Spelling
AreMoreProperties properties = EachAfter Semicolons IsProperty (Many (Keyword terminals.Semicolon)) properties

-- list ::= verb objects (';' (verb objects)?)*
abbrev pub AreProperties : List Property → Spelling
AreProperties [] = Never
AreProperties (property ∷ properties) = IsProperty property ▸ AreMoreProperties properties

-- same ::= node list
abbrev pub IsSame : Same → Spelling
IsSame same = IsNode roles.Subject same.subject ▸ AreProperties same.properties

-- ('.' block?)?
abbrev pub AreMoreSames : List Same → Spelling
AreMoreSames block = EachAfter (Keyword terminals.Stop) IsSame (Maybe (Keyword terminals.Stop)) block

-- block?, where block ::= same ('.' block?)?
abbrev pub IsBlock : List Same → Spelling
IsBlock [] = Nothing
IsBlock (same ∷ block) = IsSame same ▸ AreMoreSames block

-- '{' .. '}'
abbrev pub InBraces : Spelling → Spelling
InBraces inside = SomeToken terminals.Open roles.Open ▸ inside ▸ SomeToken terminals.Close roles.Close

-- (element '.'? block?)*, where element ::= 'OPTIONAL' group | group
abbrev pub AreElements : Elements → Spelling
AreElements EndOfGroup = Nothing
AreElements (Element OptionalGroup block elements next rest) =
    SomeToken terminals.OptionalWord roles.Optional ▸ InBraces (IsBlock block ▸ AreElements elements) ▸ Maybe (Keyword terminals.Stop) ▸ IsBlock next ▸ AreElements rest
AreElements (Element NestedGroup block elements next rest) =
    InBraces (IsBlock block ▸ AreElements elements) ▸ Maybe (Keyword terminals.Stop) ▸ IsBlock next ▸ AreElements rest

-- group ::= '{' block? (element '.'? block?)* '}'
abbrev pub IsGroup : Group → Spelling
IsGroup group = InBraces (IsBlock group.block ▸ AreElements group.elements)

-- variable*
abbrev pub AreMoreVariables : List Lexeme → Spelling
AreMoreVariables [] = Nothing
AreMoreVariables (token ∷ tokens) = Token terminals.Variable roles.Column token ▸ AreMoreVariables tokens

-- variable+
abbrev pub AreVariables : List Lexeme → Spelling
AreVariables [] = Never
AreVariables (token ∷ tokens) = Token terminals.Variable roles.Column token ▸ AreMoreVariables tokens

-- variable+ | '*'
abbrev pub AreColumns : Columns → Spelling
AreColumns AllColumns = SomeToken terminals.Star roles.AllColumns
AreColumns (Variables tokens) = AreVariables tokens

-- 'DISTINCT'?
abbrev pub IsDistinct : Bool → Spelling
IsDistinct true = SomeToken terminals.DistinctWord roles.Distinct
IsDistinct false = Nothing

-- 'PREFIX' prefix IRI
abbrev pub IsDeclaration : Declaration → Spelling
IsDeclaration declaration =
    Keyword terminals.PrefixWord ▸ Token terminals.Prefix roles.Declared declaration.prefix ▸ Token terminals.Iri roles.Namespace declaration.iri

-- prologue ::= ('PREFIX' prefix IRI)*
abbrev pub IsPrologue : List Declaration → Spelling
IsPrologue [] = Nothing
IsPrologue (declaration ∷ declarations) = IsDeclaration declaration ▸ IsPrologue declarations

-- query ::= prologue 'SELECT' 'DISTINCT'? (variable+ | '*') 'WHERE'? group
abbrev pub SpellsQuery : Syntax → Spelling
SpellsQuery tree =
    IsPrologue tree.declarations ▸ Keyword terminals.SelectWord ▸ IsDistinct tree.distinct ▸ AreColumns tree.columns ▸ Maybe (Keyword terminals.WhereWord) ▸ IsGroup tree.group

-- The labelled tokens are a query with this syntax tree: they spell it, and nothing is left.
pub record IsQuery (tree : Syntax) (labelled : List Labelled) : Type 0 where
  pub spelled : SpellsQuery tree labelled []

-- The tokens begin a query: with some more tokens they are one.
pub record Begins (tokens : List Lexeme) : Type 0 where
  pub more : List Lexeme
  pub tree : Syntax
  pub labelled : List Labelled
  pub is_query : IsQuery tree labelled
  pub tokens_are : tokens_of labelled ≡ tokens ++ more

-- The tokens are a query, with some tree.
pub record AreQuery (tokens : List Lexeme) : Type 0 where
  pub tree : Syntax
  pub labelled : List Labelled
  pub is_query : IsQuery tree labelled
  pub tokens_are : tokens_of labelled ≡ tokens

-- The grammar fault of tokens stands at number i, from 0: the tokens before it begin a query, and together with it
-- they begin none; at the end of the tokens, where they begin a query and are none.
pub record HasFaultAt (tokens : List Lexeme) (i : ℕ) : Type 0 where
  pub before : Begins (take i tokens)
  pub fault : (i < length tokens × ¬ Begins (take (suc i) tokens)) ⊎ (i ≡ length tokens × ¬ AreQuery tokens)
