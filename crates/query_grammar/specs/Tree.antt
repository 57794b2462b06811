-- Syntax trees of queries. Their leaves are tokens, as they stand in the text. SPARQL 1.1 Query, section 19.8.
use Rattle.std.specs.Prelude.{Bool, List}
use Rattle.query_tokens.specs.Token.{Lexeme}

-- a subject, a verb or an object: a variable, an IRI of any spelling, a string, which may have a tag or a
-- datatype, a number, `true` or `false`, and the word `a`
pub data Node : Type 0 where
  VariableNode : Lexeme → Node
  IriNode : Lexeme → Node
  StringNode : Lexeme → Node
  TaggedNode : Lexeme → Lexeme → Node
  TypedNode : Lexeme → Lexeme → Node
  NumberNode : Lexeme → Node
  BooleanNode : Lexeme → Node
  TypeNode : Lexeme → Node

-- a verb with its objects
pub record Property : Type 0 where
  pub verb : Node
  pub objects : List Node

-- a subject with its verbs and their objects
pub record Same : Type 0 where
  pub subject : Node
  pub properties : List Property

-- what a group inside another is: OPTIONAL, or only nested
pub data ElementKind : Type 0 where
  OptionalGroup : ElementKind
  NestedGroup : ElementKind

-- What follows the first block in a group: nothing, or an element, which is a group of its own (its block and its
-- elements) of some kind, the block after it, and what follows that. A block without triples is empty.
pub data Elements : Type 0 where
  EndOfGroup : Elements
  Element : ElementKind → List Same → Elements → List Same → Elements → Elements

-- a group: its first block, and what follows it
pub record Group : Type 0 where
  pub block : List Same
  pub elements : Elements

-- a declaration: the token of its prefix, and that of its IRI
pub record Declaration : Type 0 where
  pub prefix : Lexeme
  pub iri : Lexeme

-- the columns: `*`, or variables
pub data Columns : Type 0 where
  AllColumns : Columns
  Variables : List Lexeme → Columns

-- a query
pub record Syntax : Type 0 where
  pub declarations : List Declaration
  pub distinct : Bool
  pub columns : Columns
  pub group : Group
