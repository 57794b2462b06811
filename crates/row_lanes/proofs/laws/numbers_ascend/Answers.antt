use Rattle.row_lanes.proofs.NumberLaws.{IsStrictlyIncreasing-numbers_in}
use Rattle.row_lanes.proofs.laws.numbers_ascend.Goals as goal

pub returns : goal.returns
returns c = IsStrictlyIncreasing-numbers_in c.args.words.now
