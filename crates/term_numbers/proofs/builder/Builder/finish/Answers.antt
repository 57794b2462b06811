use Rattle.std.proofs.Common.{ap, ◌∙◌}
use Rattle.bm_term.specs.Graph.{graph_of}
use Rattle.bm_term.specs.Kept.{Kept}
use Rattle.term_numbers.specs.Numbering.{numbering_of}
use Rattle.term_numbers.proofs.SeenLaws.{numbers_at}
use Rattle.term_numbers.proofs.builder.Builder.finish.Goals as goal

pub returns-clause-numbering : goal.returns-clause-numbering
returns-clause-numbering g c =
    numbers_at c.self.inside.nodes.keys c.self.inside.predicates.keys _ _ c.self.inside.places.keys _ c.self.inside.were_more c.in_ok-numbers.numbers c.self.invariant c.if-self.false
    c.as_slice-2.ensures.keys c.as_slice-3.ensures.keys (c.in_ok-triples.ensures.items_if_clones_equal (λ x y e i. (e.0 i, e.1 i, e.2 i)) ∙ c.as_slice.ensures.keys) c.in_ok-numbers.ensures
    ∙ ap (λ (k : Kept). numbering_of (graph_of k.list)) c.self.view_is
