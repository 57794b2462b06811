use Rattle.std.proofs.Common.{◌≡◌, ◌+◌, arith}
use Rattle.row_lanes.proofs.AndLaws.{IsAndBetween-one, IsAndBetween-none, IsAndBetween-then}
use Rattle.row_lanes.proofs.words.and_between.Goals as goal

pub loop-i-init : goal.loop-i-init
loop-i-init c = IsAndBetween-none _ _ _ _ (omega arith)

pub loop-i-preserved : goal.loop-i-preserved
loop-i-preserved c =
    IsAndBetween-then c.args.from c.loop-i.i (c.loop-i.i + 1) _ _ c.loop-i.into _ (omega arith) (omega arith) c.loop-i.invariant (IsAndBetween-one _ _ _ (omega arith))

pub returns : goal.returns
returns c = let done : c.loop-i.i ≡ c.args.to = omega arith in rw done at c.loop-i.invariant
