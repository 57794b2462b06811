use Rattle.row_lanes.specs.WordByWord.{IsAndBetween}
use Rattle.row_lanes.proofs.words.and_between.Given as goal

abbrev pub invariant-loop-i : goal.invariant-loop-i
invariant-loop-i l = IsAndBetween l.from l.i l.initial.into l.other l.into
