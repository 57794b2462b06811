use Rattle.std.proofs.Common.{ℕ, ◌-◌, ◌*◌, ◌≤◌, length, Contains}
use Rattle.row_lanes.specs.Words.{Has}
use Rattle.pattern_rel.specs.Shapes.{lines_of_shape, row_of}
use Rattle.pattern_rel.specs.steps.Places.{walked, KnowsPlace}
use Rattle.pattern_rel.proofs.next.next_row.Given as goal

abbrev pub invariant-loop-n : goal.invariant-loop-n
invariant-loop-n l = (l.from ≤ l.at) × ((m : ℕ) → Has l.firsts m → Contains (row_of m (lines_of_shape l.shape)) l.c → l.from ≤ m → l.at ≤ m) × KnowsPlace l.at l.place (walked l.shape)

abbrev pub decreases-loop-n : goal.decreases-loop-n
decreases-loop-n l = 64 * length l.firsts - l.at
