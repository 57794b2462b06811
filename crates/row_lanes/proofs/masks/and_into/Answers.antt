use Rattle.row_lanes.proofs.SetLaws.{Has-and}
use Rattle.row_lanes.proofs.masks.and_into.Goals as goal

pub returns-clause-both : goal.returns-clause-both
returns-clause-both c = Has-and c.args.into.now c.args.other.now c.and_words.new.into c.and_words.ensures
