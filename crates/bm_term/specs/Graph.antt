-- A graph: a set of triples. It is kept as the list that ascends by subject, then predicate, then object, each
-- compared by the bytes of its text. RDF 1.1 Concepts, section 3; the order is this project's.
use Rattle.std.specs.Prelude.{List}
use Rattle.std.specs.declared.cmp.Ordering.{Ordering}
use Rattle.std.specs.Ordering.{nat_cmp, ordering_then}
use Rattle.std.specs.Cmp.Lexicographic.{slice_cmp}
use Rattle.bm_term.specs.declared.triple.Triple.{Triple}
use Rattle.bm_term.specs.SetOf.{IsSetOf, set_of}

abbrev pub triple_cmp : Triple → Triple → Ordering
triple_cmp t u =
    ordering_then (slice_cmp nat_cmp t.subject u.subject)
    (ordering_then (slice_cmp nat_cmp t.predicate u.predicate) (slice_cmp nat_cmp t.object u.object))

-- the graph has just these triples
abbrev pub IsGraph : List Triple → List Triple → Type 0
IsGraph triples graph = IsSetOf triple_cmp triples graph

-- the graph of a list of triples
abbrev pub graph_of : List Triple → List Triple
graph_of triples = set_of triple_cmp triples
