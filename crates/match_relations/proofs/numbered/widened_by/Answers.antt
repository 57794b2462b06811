use Rattle.std.proofs.Common.{◌∙◌}
use Rattle.match_relations.proofs.NumberLaws.{widened_next}
use Rattle.match_relations.proofs.numbered.widened_by.Goals as goal

pub loop-i-preserved : goal.loop-i-preserved
loop-i-preserved c = widened_next c.args.patterns.now c.loop-i.i c.get.result.now c.loop-i.wide c.widened-wide.result c.get.ensures c.widened-wide.ensures ∙ c.loop-i.invariant
