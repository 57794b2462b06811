-- What the nodes of a query stand for: terms, and the places of triple patterns. SPARQL 1.1 Query, sections 4.1 and 4.2.
use Rattle.std.specs.Prelude.{◌≡◌, ℕ, List, ◌++◌}
use Rattle.bm_term.specs.Canonical.{RdfTerm, iri, plain, tagged, literal_of, canonical_text}
use Rattle.query_tokens.specs.Token.{Lexeme}
use Rattle.alg_model.specs.declared.pattern.Place.{Place}
use Rattle.alg_model.specs.declared.pattern.Place.TheVariants as places
use Rattle.query_grammar.specs.Roles.{Labelled}
use Rattle.query_grammar.specs.Tree.{Node, VariableNode, IriNode, StringNode, TaggedNode, TypedNode, NumberNode, BooleanNode, TypeNode}
use Rattle.query_values.specs.Iris.{SpellsIri, SpellsPrefixedName, rdf_type}
use Rattle.query_values.specs.Literals.{SpellsLexical, SpellsTag, SpellsNumber, SpellsBoolean}
use Rattle.sparql_parse.specs.Declarations.{StandsFor}
use Rattle.sparql_parse.specs.Names.{HasNumber}

-- An IRI of any spelling, with its characters (4.1.1): one in brackets, or a prefixed name, whose IRI is that for which
-- the prefix stands with the local part after it.
pub data IsIriOf (tokens : List Labelled) (token : Lexeme) (characters : List ℕ) : Type 0 where
  in_brackets : SpellsIri token characters → IsIriOf tokens token characters
  by_prefix : (prefix local namespace : List ℕ) → SpellsPrefixedName token prefix local → StandsFor tokens prefix namespace →
      characters ≡ namespace ++ local → IsIriOf tokens token characters

-- the term that a node stands for (4.1, and 4.2.4 for the word `a`); a variable stands for none
abbrev pub IsTermOf : List Labelled → Node → RdfTerm → Type 0
IsTermOf tokens (VariableNode token) term = ⊥
IsTermOf tokens (IriNode token) term = (characters : List ℕ) × IsIriOf tokens token characters × (term ≡ iri characters)
IsTermOf tokens (StringNode token) term = (lexical : List ℕ) × SpellsLexical token lexical × (term ≡ plain lexical)
IsTermOf tokens (TaggedNode token mark) term =
    (lexical tag : List ℕ) × SpellsLexical token lexical × SpellsTag mark tag × (term ≡ tagged lexical tag)
IsTermOf tokens (TypedNode token name) term =
    (lexical datatype : List ℕ) × SpellsLexical token lexical × IsIriOf tokens name datatype × (term ≡ literal_of lexical datatype)
IsTermOf tokens (NumberNode token) term = SpellsNumber token term
IsTermOf tokens (BooleanNode token) term = SpellsBoolean token term
IsTermOf tokens (TypeNode token) term = term ≡ iri rdf_type

-- what a node is read in: the tokens of its query, and the names of the query's variables
pub record Context : Type 0 where
  pub tokens : List Labelled
  pub names : List (List ℕ)

-- the place that is the canonical text of the term
abbrev pub IsTermPlace : Context → Node → Place → Type 0
IsTermPlace context node place = (term : RdfTerm) × IsTermOf context.tokens node term × (place ≡ places.Term (canonical_text term))

-- the place of a node in a triple pattern: a variable by its number, or the canonical text of the node's term
abbrev pub IsPlaceOf : Context → Node → Place → Type 0
IsPlaceOf context (VariableNode token) place = (n : ℕ) × HasNumber context.names token n × (place ≡ places.Var (record { 0 = n }))
IsPlaceOf context node place = IsTermPlace context node place
