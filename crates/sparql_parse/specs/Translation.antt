-- What a syntax tree means: triple patterns, the translation of groups to the algebra, and columns.
-- SPARQL 1.1 Query, sections 4.2 and 18.2.2.
use Rattle.std.specs.Prelude.{◌≡◌, ℕ, ◌==◌, List, [], ◌∷◌, map, length}
use Rattle.std.specs.List.{flat_map, range_with_len}
use Rattle.alg_model.specs.declared.pattern.TriplePat.{TriplePat}
use Rattle.alg_model.specs.Pattern.{Algebra, Bgp, Join, LeftJoin, vars_of, triple_patterns}
use Rattle.query_grammar.specs.Tree.{Node, Property, Same, ElementKind, Elements, EndOfGroup, Element, OptionalGroup, NestedGroup, Group, Columns, AllColumns, Variables}
use Rattle.sparql_parse.specs.OneByOne.{OneByOne}
use Rattle.sparql_parse.specs.Names.{first_of_each, HasNumber}
use Rattle.sparql_parse.specs.Places.{Context, IsPlaceOf}

-- three nodes of a block: ';' repeats the subject, and ',' the subject and the verb (4.2.1, 4.2.2)
pub record NodeTriple : Type 0 where
  pub subject : Node
  pub verb : Node
  pub object : Node

abbrev pub triples_of_property : Node → Property → List NodeTriple
triples_of_property subject property =
    map (λ object. record { subject = subject; verb = property.verb; object = object }) property.objects

abbrev pub triples_of_same : Same → List NodeTriple
triples_of_same same = flat_map (triples_of_property same.subject) same.properties

abbrev pub triples_of_block : List Same → List NodeTriple
triples_of_block block = flat_map triples_of_same block

-- a graph pattern over the nodes of a syntax tree
pub data NodePattern : Type 0 where
  NodeBgp : List NodeTriple → NodePattern
  NodeJoin : NodePattern → NodePattern → NodePattern
  NodeLeftJoin : NodePattern → NodePattern → NodePattern

-- The translation of a group (18.2.2.6). G := Join(G, the basic graph pattern of a block); no block changes nothing
abbrev pub with_block : NodePattern → List Same → NodePattern
with_block pattern [] = pattern
with_block pattern (same ∷ block) = NodeJoin pattern (NodeBgp (triples_of_block (same ∷ block)))

-- G := LeftJoin(G, P) for OPTIONAL P, and Join(G, P) for a group P that is only nested
abbrev pub with_element : ElementKind → NodePattern → NodePattern → NodePattern
with_element OptionalGroup pattern inner = NodeLeftJoin pattern inner
with_element NestedGroup pattern inner = NodeJoin pattern inner

-- the elements one after another, and the block after each
abbrev pub with_elements : NodePattern → Elements → NodePattern
with_elements pattern EndOfGroup = pattern
with_elements pattern (Element kind block elements next rest) =
    let inner = with_elements (with_block (NodeBgp []) block) elements in
    with_elements (with_block (with_element kind pattern inner) next) rest

-- a group, which begins as the empty basic graph pattern
abbrev pub translated : Group → NodePattern
translated group = with_elements (with_block (NodeBgp []) group.block) group.elements

-- a triple pattern has the places of three nodes
pub record IsTripleOf (context : Context) (triple : NodeTriple) (pattern : TriplePat) : Type 0 where
  pub subject : IsPlaceOf context triple.subject pattern.subject
  pub predicate : IsPlaceOf context triple.verb pattern.predicate
  pub object : IsPlaceOf context triple.object pattern.object

-- the same pattern, with the triple patterns of its nodes
abbrev pub IsPatternOf : Context → NodePattern → Algebra → Type 0
IsPatternOf context (NodeBgp triples) (Bgp patterns) = OneByOne (IsTripleOf context) triples patterns
IsPatternOf context (NodeJoin left right) (Join l r) = IsPatternOf context left l × IsPatternOf context right r
IsPatternOf context (NodeLeftJoin left right) (LeftJoin l r) = IsPatternOf context left l × IsPatternOf context right r
IsPatternOf context _ _ = ⊥

-- its triple patterns are numbered from 1, in the order of the text
abbrev pub IsNumbered : Algebra → Type 0
IsNumbered pattern =
    map (λ triple. triple.number) (triple_patterns pattern) ≡ range_with_len 1 (length (triple_patterns pattern))

-- the columns by their numbers: all variables of the pattern, in the order in which they first occur in it, or those of
-- SELECT, each once
abbrev pub AreColumnsOf : List (List ℕ) → Algebra → Columns → List ℕ → Type 0
AreColumnsOf names pattern AllColumns columns = columns ≡ first_of_each ◌==◌ (vars_of pattern)
AreColumnsOf names pattern (Variables tokens) columns =
    (numbers : List ℕ) × OneByOne (HasNumber names) tokens numbers × (columns ≡ first_of_each ◌==◌ numbers)
