use Rattle.std.proofs.Common.{◌+◌, arith}
use Rattle.pattern_rel.proofs.FoldLaws.{IsRetaining-next}
use Rattle.pattern_rel.proofs.PlaceLaws.{KnowsPlace-later}
use Rattle.pattern_rel.proofs.folds.retain.Goals as goal

pub loop-n-preserved : goal.loop-n-preserved
loop-n-preserved c = (
  IsRetaining-next c.loop-n.from c.in-Some.n _ _ _ c.loop-n.into _ c.in-Some.ensures.next c.settle-place.ensures.kept c.loop-n.invariant.0,
  KnowsPlace-later c.in-Some.n (c.in-Some.n + 1) _ _ (omega arith) c.settle-place.ensures.known,
)
