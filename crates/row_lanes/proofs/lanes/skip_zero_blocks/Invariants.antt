use Rattle.std.proofs.Common.{◌-◌, ◌≤◌, length}
use Rattle.row_lanes.specs.WordByWord.{AreZeroBetween}
use Rattle.row_lanes.proofs.lanes.skip_zero_blocks.Given as goal

abbrev pub invariant-loop-at : goal.invariant-loop-at
invariant-loop-at l = (l.from ≤ l.at) × (l.at ≤ length l.words) × AreZeroBetween l.from l.at l.words

abbrev pub decreases-loop-at : goal.decreases-loop-at
decreases-loop-at l = length l.words - l.at
