use Rattle.std.proofs.Common.{All, subst, sym}
use Rattle.std.proofs.lemmas.List.Elements.{All-push}
use Rattle.bm_term.specs.Triple.{IsRdfTriple}
use Rattle.bench_images.proofs.put.Goals as goal

pub returns : goal.returns
returns c = subst (All IsRdfTriple) (sym c.in_ok-push.ensures.items) (All-push IsRdfTriple _ _ c.requires.all c.requires.one)
