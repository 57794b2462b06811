use Rattle.std.proofs.Common.{◌+◌, arith}
use Rattle.pattern_rel.proofs.FoldLaws.{IsGathering-next}
use Rattle.pattern_rel.proofs.PlaceLaws.{KnowsPlace-later}
use Rattle.pattern_rel.proofs.folds.gather.Goals as goal

pub loop-n-preserved : goal.loop-n-preserved
loop-n-preserved c = (
  IsGathering-next _ c.loop-n.from c.in-Some.n _ _ _ c.loop-n.into _ _ c.in-Some.ensures.candidate c.partners_from-found.ensures.partners c.add_to.ensures.same_length c.add_to.ensures.either c.loop-n.invariant.0,
  KnowsPlace-later c.in-Some.n (c.in-Some.n + 1) _ _ (omega arith) c.partners_from-found.ensures.known,
)
