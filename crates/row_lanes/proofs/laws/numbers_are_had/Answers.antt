use Rattle.row_lanes.proofs.NumberLaws.{Contains-numbers_in}
use Rattle.row_lanes.proofs.laws.numbers_are_had.Goals as goal

pub returns : goal.returns
returns c = Contains-numbers_in c.args.words.now
