use Rattle.row_lanes.proofs.SetLaws.{Has-add_within}
use Rattle.row_lanes.proofs.masks.add.Goals as goal

pub returns-then-place-into-clause-either : goal.returns-then-place-into-clause-either
returns-then-place-into-clause-either c = Has-add_within c.args.into.now c.args.n c.if-place-into.true
