use Rattle.std.proofs.Common.{◌*◌}
use Rattle.row_lanes.specs.WordByWord.{IsAndBetween}
use Rattle.row_lanes.proofs.lanes.and_blocks.Given as goal

abbrev pub invariant-loop-block : goal.invariant-loop-block
invariant-loop-block l = IsAndBetween 0 (4 * l.block) l.initial.into l.other l.into
