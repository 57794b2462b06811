use Rattle.std.proofs.Common.{All, subst, sym}
use Rattle.std.proofs.lemmas.List.Elements.{All-push}
use Rattle.bm_term.specs.Triple.{IsRdfTriple}
use Rattle.index_image.proofs.tests.push_row.Goals as goal

pub loop-object-preserved : goal.loop-object-preserved
loop-object-preserved c = subst (All IsRdfTriple) (sym c.in_ok-push.ensures.items) (All-push IsRdfTriple _ _ c.loop-object.invariant c.in_ok-named.ensures)
