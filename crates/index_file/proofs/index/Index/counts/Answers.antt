use Rattle.std.proofs.Common.{length, ap, subst, arith}
use Rattle.term_numbers.specs.Numbering.{term_table}
use Rattle.index_file.proofs.GroupLaws.{term_table-terms_in}
use Rattle.index_file.specs.Stored.{Stored}
use Rattle.index_file.specs.Version.{NumbersSomeGraph}
use Rattle.index_file.proofs.index.Index.counts.Goals as goal

pub returns-clause-of_a_graph : goal.returns-clause-of_a_graph
returns-clause-of_a_graph c = subst NumbersSomeGraph (ap (λ (s : Stored). s.numbering) c.self.view_is) c.self.invariant.numbers

pub returns-clause-few_terms : goal.returns-clause-few_terms
returns-clause-few_terms c =
    let l = c.self.inside.parts in
    let table = ap (λ (s : Stored). length (term_table s.numbering.terms)) c.self.view_is in
    let texts = ap length (term_table-terms_in l) in
    let few = c.counts.ensures.has.few_texts in
    omega arith
