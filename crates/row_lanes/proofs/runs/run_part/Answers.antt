use Rattle.std.proofs.Common.{refl, arith}
use Rattle.row_lanes.proofs.RunLaws.{IsRunPart-masked}
use Rattle.row_lanes.proofs.runs.run_part.Goals as goal

pub returns : goal.returns
returns c =
    IsRunPart-masked c.args.place c.args.start c.args.end c.saturating_sub-low.result c.min-high.result _ _ c.requires.begun c.requires.left (omega arith) c.min-high.ensures refl refl
