use Rattle.std.proofs.Common.{All, subst, sym}
use Rattle.std.proofs.lemmas.List.Elements.{All-push}
use Rattle.bm_term.specs.Triple.{IsRdfTriple}
use Rattle.index_image.proofs.tests.triples.Goals as goal

pub loop-texts-preserved : goal.loop-texts-preserved
loop-texts-preserved c = subst (All IsRdfTriple) (sym c.in_ok-push.ensures.items) (All-push IsRdfTriple _ _ c.loop-texts.invariant c.in_ok-triple.ensures)
