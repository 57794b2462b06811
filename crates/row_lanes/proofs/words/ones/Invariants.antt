use Rattle.std.proofs.Common.{◌≡◌, ◌≤◌, ◌*◌, take, sum_by, count_ones}
use Rattle.row_lanes.proofs.words.ones.Given as goal

abbrev pub invariant-loop-word : goal.invariant-loop-word
invariant-loop-word l = (l.total ≡ sum_by count_ones (take l.word-index l.words)) × (l.total ≤ 64 * l.word-index)
