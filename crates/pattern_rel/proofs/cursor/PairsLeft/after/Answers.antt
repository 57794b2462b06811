use Rattle.std.proofs.Common.{◌-◌, ◌^◌}
use Rattle.pattern_rel.specs.Shapes.{lines_of_shape}
use Rattle.pattern_rel.proofs.LeftLaws.{left_after}
use Rattle.pattern_rel.proofs.cursor.PairsLeft.after.Goals as goal

pub returns : goal.returns
returns c =
    rw c.open.ensures.row (left_after (2 ^ 32 - 1) (2 ^ 32 - 1) c.args.firsts.now c.args.seconds.now (lines_of_shape c.args.shape.now) c.lines_ascend.ensures c.requires.firsts_few c.requires.seconds_few c.args.last.first c.args.last.second _ _ c.saturating_add.ensures c.saturating_add-2.ensures)
