use Rattle.pattern_rel.proofs.ShapeLaws.{mirrored, AreTransposed-diagonal}
use Rattle.pattern_rel.proofs.shape.Shape.mirror.Goals as goal

pub returns-in-Pairs : goal.returns-in-Pairs
returns-in-Pairs c = mirrored _ _ _ _ c.in-Pairs.is c.requires c.all_pairs.ensures

pub returns-in-Diagonal : goal.returns-in-Diagonal
returns-in-Diagonal c = rw (c.in-Diagonal.is, c.again.ensures) (AreTransposed-diagonal c.in-Diagonal.shared c.in-Diagonal.slice)
