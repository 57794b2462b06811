use Rattle.std.proofs.Common.{◌-◌, ◌*◌, ◌≤◌, length}
use Rattle.pattern_rel.specs.Shapes.{lines_of_shape}
use Rattle.pattern_rel.specs.steps.Sets.{NoneBetween}
use Rattle.pattern_rel.specs.steps.Places.{walked, KnowsPlace}
use Rattle.pattern_rel.proofs.walk.open_next.Given as goal

abbrev pub invariant-loop-first : goal.invariant-loop-first
invariant-loop-first l = (l.from ≤ l.at) × NoneBetween l.from l.at l.firsts l.seconds (lines_of_shape l.shape) × KnowsPlace l.at l.place (walked l.shape)

abbrev pub decreases-loop-first : goal.decreases-loop-first
decreases-loop-first l = 64 * length l.firsts - l.at
