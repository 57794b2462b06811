use Rattle.row_lanes.proofs.AndLaws.{IsAndBetween-four}
use Rattle.row_lanes.proofs.lanes.and_four.Goals as goal

pub returns : goal.returns
returns c =
    IsAndBetween-four c.args.at c.args.into.now c.args.other.now c.requires.into_has c.requires.other_has
