use Rattle.std.proofs.Common.{◌≡◌, ◌+◌, ◌*◌, arith}
use Rattle.row_lanes.proofs.AndLaws.{IsAndBetween-none, IsAndBetween-then}
use Rattle.row_lanes.proofs.lanes.and_blocks.Goals as goal

pub loop-block-init : goal.loop-block-init
loop-block-init c = IsAndBetween-none 0 _ _ _ (omega arith)

pub loop-block-preserved : goal.loop-block-preserved
loop-block-preserved c =
    let next : 4 * c.loop-block.block + 4 ≡ 4 * (c.loop-block.block + 1) = omega arith in
    rw (← next) (IsAndBetween-then 0 (4 * c.loop-block.block) _ _ _ c.loop-block.into _ (omega arith) (omega arith) c.loop-block.invariant c.and_four.ensures)
