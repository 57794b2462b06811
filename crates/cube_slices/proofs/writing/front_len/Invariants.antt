use Rattle.std.proofs.Common.{◌≡◌, ◌+◌, drop}
use Rattle.cube_slices.specs.steps.Writing.{line_length}
use Rattle.cube_slices.proofs.writing.front_len.Given as goal

abbrev pub invariant-loop-i : goal.invariant-loop-i
invariant-loop-i l = l.i + line_length l.row (drop l.i l.pairs) ≡ line_length l.row l.pairs
