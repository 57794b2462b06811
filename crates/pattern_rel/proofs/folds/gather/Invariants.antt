use Rattle.std.proofs.Common.{◌-◌, ◌*◌, length}
use Rattle.pattern_rel.specs.Shapes.{lines_of_shape}
use Rattle.pattern_rel.specs.steps.Places.{walked, KnowsPlace}
use Rattle.pattern_rel.proofs.FoldLaws.{IsGathering}
use Rattle.pattern_rel.proofs.folds.gather.Given as goal

abbrev pub invariant-loop-n : goal.invariant-loop-n
invariant-loop-n l = IsGathering (length l.initial.into) l.from (lines_of_shape l.shape) l.firsts l.initial.into l.into × KnowsPlace l.from l.place (walked l.shape)

abbrev pub decreases-loop-n : goal.decreases-loop-n
decreases-loop-n l = 64 * length l.firsts - l.from
