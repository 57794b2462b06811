use Rattle.std.proofs.Common.{arith}
use Rattle.index_file.proofs.SearchLaws.{between_upper}
use Rattle.index_file.proofs.search.halve.Goals as goal

pub loop-low-preserved-then-is_before : goal.loop-low-preserved-then-is_before
loop-low-preserved-then-is_before c =
    between_upper c.args.text.now _ c.args.texts.now _ _ _ c.requires (omega arith) c.get.ensures.at (c.is_before.ensures.0 c.if-is_before.true) c.loop-low.invariant
