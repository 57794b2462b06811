use Rattle.index_file.proofs.StepLaws.{AreSlices-at, lines_there}
use Rattle.index_file.proofs.family_slices.FamilySlices.get.Goals as goal

pub view_slice-requires : goal.view_slice-requires
view_slice-requires c =
    AreSlices-at c.self.inside.form c.self.inside.rows c.self.inside.columns c.args.i _ _ c.self.inside.slices c.self.invariant c.get.ensures.at

pub returns-clause-at : goal.returns-clause-at
returns-clause-at c =
    rw (← c.self.view_is) (lines_there c.self.inside.form c.args.i _ c.self.inside.slices c.view_slice.result c.get.ensures.at c.view_slice.ensures.lines)
