use Rattle.std.proofs.Common.{◌-◌, ◌^◌}
use Rattle.pattern_rel.proofs.PairLaws.{PairsAscend-left}
use Rattle.pattern_rel.proofs.relation.PatRel.pairs_ascend.Goals as goal

pub returns : goal.returns
returns c = rw (← c.self.view_is) (PairsAscend-left (2 ^ 32 - 1) (2 ^ 32 - 1) _ _ _ c.lines_ascend.ensures)
