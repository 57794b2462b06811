-- The graph of data is one of RDF triples, and its index is the image of it.
use Rattle.std.proofs.Common.{ℕ, ◌≤◌, List, length, All, get_or, refl, sym, subst, arith}
use Rattle.std.specs.List.Sorted.{IsStrictlySortedBy}
use Rattle.std.proofs.lemmas.List.Elements.{All-contains, Contains-get_or}
use Rattle.bm_term.specs.declared.triple.Triple.{Triple}
use Rattle.bm_term.specs.Triple.{IsRdfTriple}
use Rattle.bm_term.specs.Graph.{triple_cmp}
use Rattle.bm_term.proofs.Sets.{IsSetOf-set_of}
use Rattle.bm_term.proofs.TripleOrder.{triple_cmp-total, triple_cmp-exact}
use Rattle.nt_read.specs.scanning.Lines.{lines_of, triples_of}
use Rattle.nt_read.proofs.TakenTriples.{triples_of-rdf}
use Rattle.run_rows.specs.declared.form.RowForm.TheVariants.{V1}
use Rattle.term_numbers.specs.Limits.{max_triples}
use Rattle.index_file.specs.Image.{image_of}
use Rattle.bm_top.specs.Lines.{max_index_bytes}
use Rattle.bm_top.specs.Standard.{IsGraphOf, IsIndexOf}
use Rattle.bm_top.specs.steps.VerdictOf.{graph_in}
use Rattle.bm_top.proofs.ReadData.{graph-read}

-- the graph that is read is one of RDF triples, and ascends
pub graph_in-rdf : (bytes : List ℕ) → All IsRdfTriple (graph_in bytes)
graph_in-rdf bytes k d lt =
    let triples = triples_of (lines_of bytes) in
    let set = (IsSetOf-set_of triple_cmp triple_cmp-total triple_cmp-exact triples (graph_in bytes)).1 refl in
    All-contains IsRdfTriple triples (get_or (graph_in bytes) k d) (triples_of-rdf (lines_of bytes)) ((set.same (get_or (graph_in bytes) k d)).0 (Contains-get_or (graph_in bytes) k d lt))

pub graph_in-ascends : (bytes : List ℕ) → IsStrictlySortedBy triple_cmp (graph_in bytes)
graph_in-ascends bytes = ((IsSetOf-set_of triple_cmp triple_cmp-total triple_cmp-exact (triples_of (lines_of bytes)) (graph_in bytes)).1 refl).ascends

-- within the limits the image of the graph is its index
pub index-read : (bytes : List ℕ) → length (graph_in bytes) ≤ max_triples → length (image_of 1 V1 (graph_in bytes)) ≤ max_index_bytes → IsIndexOf (graph_in bytes) (image_of 1 V1 (graph_in bytes))
index-read bytes few short = record {
  storable = record {
    ascends = graph_in-ascends bytes;
    triples = graph_in-rdf bytes;
    few = few;
    short = omega (arith, short);
  };
  spelled = refl;
}

-- the index of a graph of data that keeps the limits
pub graph_index : (bytes : List ℕ) (graph : List Triple) → IsGraphOf bytes graph → length graph ≤ max_triples → length (image_of 1 V1 graph) ≤ max_index_bytes → IsIndexOf graph (image_of 1 V1 graph)
graph_index bytes graph is few short =
    let P : List Triple → Type 0 = λ g. length g ≤ max_triples → length (image_of 1 V1 g) ≤ max_index_bytes → IsIndexOf g (image_of 1 V1 g) in
    subst P (sym (graph-read bytes graph is).are) (index-read bytes) few short
