-- Carries proofs only: what a syntax tree means, with the numbers of triple patterns counted on the way.
use Rattle.std.specs.Prelude.{ℕ, ◌+◌, List, [], ◌∷◌, map, length, ◌==◌, position}
use Rattle.std.specs.Option.{option_map_or}
use Rattle.bm_term.specs.Canonical.{RdfTerm, iri, canonical_text}
use Rattle.query_tokens.specs.Token.{Lexeme}
use Rattle.query_tokens.specs.declared.token.TokenKind.{TokenKind}
use Rattle.query_tokens.specs.declared.token.TokenKind.TheVariants as kinds
use Rattle.alg_model.specs.declared.pattern.Place.{Place}
use Rattle.alg_model.specs.declared.pattern.Place.TheVariants as places
use Rattle.alg_model.specs.declared.pattern.TriplePat.{TriplePat}
use Rattle.alg_model.specs.Pattern.{Algebra, Bgp, Join, LeftJoin, vars_of}
use Rattle.query_grammar.specs.Tree.{Node, VariableNode, IriNode, StringNode, TaggedNode, TypedNode, NumberNode, BooleanNode, TypeNode, Same, ElementKind, Elements, EndOfGroup, Element, OptionalGroup, NestedGroup, Group, Columns, AllColumns, Variables}
use Rattle.query_grammar.specs.Roles.{Labelled}
use Rattle.sparql_parse.specs.Names.{with_item, first_of_each}
use Rattle.sparql_parse.specs.Translation.{NodeTriple, triples_of_block}
use Rattle.sparql_parse.specs.computed.Names.{Namespace, namespace_of, is_text, names_of, namespaces_of}
use Rattle.query_values.specs.reading.Values.{iri_of, prefix_of, prefixed_iri, name_of, plain_literal, tagged_literal, typed_literal, number_literal, boolean_literal, type_iri}

-- what names and prefixes stand for in a query, as it is computed
pub record Scope : Type 0 where
  pub names : List (List ℕ)
  pub namespaces : List Namespace

-- the names and the declarations among tokens
abbrev pub scope_of : List Labelled → Scope
scope_of labelled = record { names = names_of labelled; namespaces = namespaces_of labelled }

-- the number of a variable: the place of its name
abbrev pub number_of : List (List ℕ) → List ℕ → ℕ
number_of names name = option_map_or (λ n. n) (position (is_text name) names) 0

-- the characters of the IRI for which a declared prefix stands
abbrev pub namespace_at : Scope → List ℕ → List ℕ
namespace_at scope prefix = option_map_or (λ iri. iri) (namespace_of scope.namespaces prefix) []

-- the characters of an IRI of any spelling
abbrev pub iri_of_kind : Scope → TokenKind → Lexeme → List ℕ
iri_of_kind scope kinds.Prefixed token = prefixed_iri (namespace_at scope (prefix_of token)) token
iri_of_kind scope kinds.Prefix token = namespace_at scope (prefix_of token)
iri_of_kind scope _ token = iri_of token

abbrev pub iri_in : Scope → Lexeme → List ℕ
iri_in scope token = iri_of_kind scope token.kind token

-- the canonical text of a term, as a place
abbrev pub term : RdfTerm → Place
term t = places.Term (canonical_text t)

-- a variable, or the canonical text of a term
abbrev pub place_of : Scope → Node → Place
place_of scope (VariableNode token) = places.Var (record { 0 = number_of scope.names (name_of token) })
place_of scope (IriNode token) = term (iri (iri_in scope token))
place_of scope (StringNode token) = term (plain_literal token)
place_of scope (TaggedNode token tag) = term (tagged_literal token tag)
place_of scope (TypedNode token datatype) = term (typed_literal token (iri_in scope datatype))
place_of scope (NumberNode token) = term (number_literal token)
place_of scope (BooleanNode token) = term (boolean_literal token)
place_of scope (TypeNode token) = term type_iri

-- triple patterns, of which the first has this number
abbrev pub patterns_from : Scope → ℕ → List NodeTriple → List TriplePat
patterns_from scope n [] = []
patterns_from scope n (t ∷ ts) =
    (record { subject = place_of scope t.subject; predicate = place_of scope t.verb; object = place_of scope t.object; number = n })
    ∷ patterns_from scope (n + 1) ts

-- the pattern of a group so far, and the number of the next triple pattern
pub record Translated : Type 0 where
  pub pattern : Algebra
  pub next : ℕ

-- a group begins as the empty basic graph pattern
abbrev pub empty_group : ℕ → Translated
empty_group n = record { pattern = Bgp []; next = n }

abbrev pub combined_as : ElementKind → Algebra → Algebra → Algebra
combined_as OptionalGroup left right = LeftJoin left right
combined_as NestedGroup left right = Join left right

module _ (scope : Scope) where
  -- G := Join(G, the basic graph pattern of a block); no block changes nothing
  abbrev pub with_block : Translated → List Same → Translated
  with_block g [] = g
  with_block g (same ∷ block) =
      let triples = triples_of_block (same ∷ block) in
      record { pattern = Join g.pattern (Bgp (patterns_from scope g.next triples)); next = g.next + length triples }

  -- G := LeftJoin(G, P) for OPTIONAL P, and Join(G, P) for a group P that is only nested
  abbrev pub with_elements : Translated → Elements → Translated
  with_elements g EndOfGroup = g
  with_elements g (Element kind block elements next rest) =
      let inner = with_elements (with_block (empty_group g.next) block) elements in
      with_elements (with_block (record { pattern = combined_as kind g.pattern inner.pattern; next = inner.next }) next) rest

  -- the pattern of the query's group
  abbrev pub pattern_of : Group → Algebra
  pattern_of group = (with_elements (with_block (empty_group 1) group.block) group.elements).pattern

-- a number at the end of some numbers, unless it stands there
abbrev pub with_number : List ℕ → ℕ → List ℕ
with_number numbers n = with_item ◌==◌ numbers n

-- numbers, each once, in the order in which they first occur
abbrev pub each_first : List ℕ → List ℕ
each_first numbers = first_of_each ◌==◌ numbers

-- the columns: all variables of the pattern, in the order in which they first occur in it, or those of SELECT
abbrev pub columns_of : Scope → Algebra → Columns → List ℕ
columns_of scope pattern AllColumns = each_first (vars_of pattern)
columns_of scope pattern (Variables tokens) = each_first (map (λ token. number_of scope.names (name_of token)) tokens)
