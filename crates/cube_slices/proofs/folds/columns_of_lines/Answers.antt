use Rattle.cube_slices.proofs.FoldLaws.{IsFoldingColumns-next}
use Rattle.cube_slices.proofs.folds.columns_of_lines.Goals as goal

pub loop-number-preserved : goal.loop-number-preserved
loop-number-preserved c =
    IsFoldingColumns-next _ c.args.keep.now c.args.lines _ _ c.in-Some.number c.in-Some.row _ c.in-Some.rest c.in-Some.ensures.first c.keep_columns.ensures.same_length c.keep_columns.ensures.either c.loop-number.invariant
