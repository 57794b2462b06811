use Rattle.row_lanes.specs.WordByWord.{AreZeroBetween}
use Rattle.row_lanes.proofs.words.first_set_by_one.Given as goal

abbrev pub invariant-loop-i : goal.invariant-loop-i
invariant-loop-i l = AreZeroBetween l.from l.i l.words
