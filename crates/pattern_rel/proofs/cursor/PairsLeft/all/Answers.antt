use Rattle.pattern_rel.specs.Shapes.{lines_of_shape}
use Rattle.pattern_rel.proofs.LeftLaws.{left_all}
use Rattle.pattern_rel.proofs.cursor.PairsLeft.all.Goals as goal

pub returns : goal.returns
returns c = left_all 0 0 c.args.firsts.now c.args.seconds.now (lines_of_shape c.args.shape.now)
