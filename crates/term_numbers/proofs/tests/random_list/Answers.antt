use Rattle.std.proofs.Common.{All, subst, sym}
use Rattle.std.proofs.lemmas.List.Elements.{All-push}
use Rattle.bm_term.specs.Triple.{IsRdfTriple}
use Rattle.term_numbers.proofs.tests.random_list.Goals as goal

pub loop-preserved : goal.loop-preserved
loop-preserved c = subst (All IsRdfTriple) (sym c.in_ok-push.ensures.items) (All-push IsRdfTriple _ _ c.loop.invariant c.in_ok-triple.ensures)
