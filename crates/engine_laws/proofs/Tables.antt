-- The term table of a graph: nodes, no two with one text, and then predicates, no two with one text.
use Rattle.std.proofs.Common.{◌≡◌, ◌≢◌, ℕ, ◌++◌, List, AllPairs, Contains, sym, ◌∙◌, ap, subst, append_assoc}
use Rattle.bm_term.specs.Graph.{triple_cmp}
use Rattle.bm_term.specs.declared.triple.Triple.{Triple}
use Rattle.bm_term.proofs.Sets.{AllPairs-ascending}
use Rattle.bm_term.proofs.TripleOrder.{triple_cmp-total}
use Rattle.alg_model.proofs.Lists.{AllPairs-append}
use Rattle.index_file.specs.Conditions.{AreOrdered}
use Rattle.index_file.specs.Version.{NumbersGraph}
use Rattle.index_file.proofs.TermGroupLaws.{AreOrdered-terms_of}
use Rattle.term_numbers.specs.Numbering.{Terms, Numbering, term_table}
use Rattle.term_numbers.specs.Order.{text_cmp}
use Rattle.term_numbers.proofs.Ascending.{text_cmp-total}

-- no text stands twice
abbrev Differ : List (List ℕ) → Type 0
Differ texts = AllPairs (λ x y. x ≢ y) texts

-- no triple of a graph stands twice
pub graph_differs : (graph : List Triple) (numbering : Numbering) → NumbersGraph graph numbering → AllPairs (λ t u. t ≢ u) graph
graph_differs graph numbering numbers = AllPairs-ascending triple_cmp triple_cmp-total graph numbers.ascends

ordered_terms : (graph : List Triple) (numbering : Numbering) → NumbersGraph graph numbering → AreOrdered numbering.terms
ordered_terms graph numbering numbers = subst (λ numbering. AreOrdered numbering.terms) (sym numbers.numbered) (AreOrdered-terms_of graph)

pub nodes_differ : (graph : List Triple) (numbering : Numbering) → NumbersGraph graph numbering → Differ (numbering.terms.shared ++ (numbering.terms.subjects ++ numbering.terms.objects))
nodes_differ graph numbering numbers =
    let terms = numbering.terms in
    let ordered = ordered_terms graph numbering numbers in
    let ascending = AllPairs-ascending text_cmp text_cmp-total in
    AllPairs-append (λ x y. x ≢ y) terms.shared (terms.subjects ++ terms.objects) (ascending terms.shared ordered.shared)
    (AllPairs-append (λ x y. x ≢ y) terms.subjects terms.objects (ascending terms.subjects ordered.subjects) (ascending terms.objects ordered.objects)
    (λ x y at at' same. ordered.subjects_alone x at (subst (Contains terms.objects) (sym same) at')))
    (λ x y at at' same. ordered.shared_alone x at (subst (Contains (terms.subjects ++ terms.objects)) (sym same) at'))

pub predicates_differ : (graph : List Triple) (numbering : Numbering) → NumbersGraph graph numbering → Differ numbering.terms.predicates
predicates_differ graph numbering numbers = AllPairs-ascending text_cmp text_cmp-total numbering.terms.predicates (ordered_terms graph numbering numbers).predicates

pub nodes_first : (terms : Terms) → term_table terms ≡ (terms.shared ++ (terms.subjects ++ terms.objects)) ++ terms.predicates
nodes_first terms =
    ap (λ rest. terms.shared ++ rest) (sym (append_assoc terms.subjects terms.objects terms.predicates))
    ∙ sym (append_assoc terms.shared (terms.subjects ++ terms.objects) terms.predicates)
