-- What is left of a syntax tree from a place on, as a fold over the labelled tokens from the right.
use Rattle.std.proofs.Common.{Bool, true, false, List, [], ◌∷◌}
use Rattle.query_tokens.specs.Token.{Lexeme}
use Rattle.query_grammar.specs.declared.terminal.Terminal.{Terminal}
use Rattle.query_grammar.specs.declared.terminal.Terminal.TheVariants as terminals
use Rattle.query_grammar.specs.declared.syntax.Role.{Role}
use Rattle.query_grammar.specs.declared.syntax.Role.TheVariants as roles
use Rattle.query_grammar.specs.Terminals.{terminal_of}
use Rattle.query_grammar.specs.Roles.{Labelled}
use Rattle.query_grammar.specs.Tree.{Node, VariableNode, IriNode, StringNode, TaggedNode, TypedNode, NumberNode, BooleanNode, TypeNode, Property, Same, Elements, EndOfGroup, Element, OptionalGroup, NestedGroup, Group, Declaration, Columns, AllColumns, Variables, Syntax}

-- what a literal that has begun goes on with
pub data Suffix : Type 0 where
  NoSuffix : Suffix
  TagSuffix : Lexeme → Suffix
  TypeSuffix : Lexeme → Suffix

-- what a query has before its group
pub record Head : Type 0 where
  pub declarations : List Declaration
  pub distinct : Bool
  pub columns : Columns

-- what is left: of the node, the objects, the properties, the block and the elements that have begun, of the groups
-- round them, and of the head
pub record Remainder : Type 0 where
  pub suffix : Suffix
  pub objects : List Node
  pub properties : List Property
  pub block : List Same
  pub elements : Elements
  pub outer : List Group
  pub head : Head

abbrev pub left : Suffix → List Node → List Property → List Same → Elements → List Group → Head → Remainder
left suffix objects properties block elements outer head = record {
  suffix = suffix;
  objects = objects;
  properties = properties;
  block = block;
  elements = elements;
  outer = outer;
  head = head;
}

abbrev pub group_of : List Same → Elements → Group
group_of block elements = record { block = block; elements = elements }

abbrev pub property_of : Node → List Node → Property
property_of verb objects = record { verb = verb; objects = objects }

abbrev pub same_of : Node → List Property → Same
same_of subject properties = record { subject = subject; properties = properties }

abbrev pub declaration_of : Lexeme → Lexeme → Declaration
declaration_of prefix iri = record { prefix = prefix; iri = iri }

abbrev pub head_of : List Declaration → Bool → Columns → Head
head_of declarations distinct columns = record { declarations = declarations; distinct = distinct; columns = columns }

-- nothing is left of the head
abbrev pub no_head : Head
no_head = head_of [] false (Variables [])

-- nothing is left
abbrev pub nothing_left : Remainder
nothing_left = left NoSuffix [] [] [] EndOfGroup [] no_head

abbrev pub string_node : Lexeme → Suffix → Node
string_node token NoSuffix = StringNode token
string_node token (TagSuffix tag) = TaggedNode token tag
string_node token (TypeSuffix iri) = TypedNode token iri

-- the node that begins with a token
abbrev pub node_of : Terminal → Lexeme → Suffix → Node
node_of terminals.Variable token tail = VariableNode token
node_of terminals.Iri token tail = IriNode token
node_of terminals.Prefixed token tail = IriNode token
node_of terminals.Prefix token tail = IriNode token
node_of terminals.Quoted token tail = string_node token tail
node_of terminals.Number token tail = NumberNode token
node_of terminals.Boolean token tail = BooleanNode token
node_of _ token tail = TypeNode token

-- the group that begins here, with what follows it in the group round it
abbrev pub nested_element : Remainder → List Group → Elements
nested_element r [] = Element NestedGroup r.block r.elements [] EndOfGroup
nested_element r (group ∷ outer) = Element NestedGroup r.block r.elements group.block group.elements

abbrev pub but_first : List Group → List Group
but_first [] = []
but_first (group ∷ outer) = outer

abbrev pub open_group : Remainder → List Group → Remainder
open_group r outer = left NoSuffix [] [] [] (nested_element r outer) (but_first outer) no_head

abbrev pub as_optional : Elements → Elements
as_optional EndOfGroup = EndOfGroup
as_optional (Element kind block elements next rest) = Element OptionalGroup block elements next rest

abbrev pub with_column : Lexeme → Columns → Columns
with_column token AllColumns = Variables (token ∷ [])
with_column token (Variables tokens) = Variables (token ∷ tokens)

abbrev pub with_declaration : Lexeme → Suffix → List Declaration → List Declaration
with_declaration token NoSuffix declarations = declarations
with_declaration token (TagSuffix tag) declarations = declarations
with_declaration token (TypeSuffix iri) declarations = declaration_of token iri ∷ declarations

abbrev pub grow_keyword : Terminal → Remainder → Remainder
grow_keyword terminals.Comma r = left NoSuffix r.objects r.properties r.block r.elements r.outer r.head
grow_keyword terminals.Semicolon r = left NoSuffix [] r.properties r.block r.elements r.outer r.head
grow_keyword terminals.Stop r = left NoSuffix [] [] r.block r.elements r.outer r.head
grow_keyword terminals.SelectWord r = left NoSuffix [] [] [] r.elements r.outer (head_of [] r.head.distinct r.head.columns)
grow_keyword terminals.WhereWord r = left NoSuffix [] [] [] r.elements r.outer no_head
grow_keyword _ r = r

-- what is left before a token, from what is left after it
abbrev pub grow : Role → Terminal → Lexeme → Remainder → Remainder
grow roles.Keyword terminal token r = grow_keyword terminal r
grow roles.Declared terminal token r = left NoSuffix [] [] [] r.elements r.outer (record r.head { declarations = with_declaration token r.suffix r.head.declarations })
grow roles.Namespace terminal token r = left (TypeSuffix token) [] [] [] r.elements r.outer r.head
grow roles.Distinct terminal token r = left NoSuffix [] [] [] r.elements r.outer (head_of [] true r.head.columns)
grow roles.Column terminal token r = left NoSuffix [] [] [] r.elements r.outer (head_of [] false (with_column token r.head.columns))
grow roles.AllColumns terminal token r = left NoSuffix [] [] [] r.elements r.outer (head_of [] false AllColumns)
grow roles.Optional terminal token r = left NoSuffix [] [] [] (as_optional r.elements) r.outer r.head
grow roles.Open terminal token r = open_group r r.outer
grow roles.Close terminal token r = left NoSuffix [] [] [] EndOfGroup (group_of r.block r.elements ∷ r.outer) r.head
grow roles.Subject terminal token r = left NoSuffix [] [] (same_of (node_of terminal token r.suffix) r.properties ∷ r.block) r.elements r.outer r.head
grow roles.Verb terminal token r = left NoSuffix [] (property_of (node_of terminal token NoSuffix) r.objects ∷ r.properties) r.block r.elements r.outer r.head
grow roles.Object terminal token r = left NoSuffix (node_of terminal token r.suffix ∷ r.objects) r.properties r.block r.elements r.outer r.head
grow roles.Tag terminal token r = left (TagSuffix token) r.objects r.properties r.block r.elements r.outer r.head
grow roles.Datatype terminal token r = left (TypeSuffix token) r.objects r.properties r.block r.elements r.outer r.head

-- what is left of a query
unfoldable pub remainder_of : List Labelled → Remainder
remainder_of [] = nothing_left
remainder_of (l ∷ ls) = grow l.role (terminal_of l.token) l.token (remainder_of ls)

-- the group of a query, which is left as its only element
abbrev pub main_group : Elements → Group
main_group EndOfGroup = group_of [] EndOfGroup
main_group (Element kind block elements next rest) = group_of block elements

-- the syntax tree of labelled tokens
abbrev pub tree_left : Remainder → Syntax
tree_left r = record {
  declarations = r.head.declarations;
  distinct = r.head.distinct;
  columns = r.head.columns;
  group = main_group r.elements;
}
