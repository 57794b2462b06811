use Rattle.std.proofs.Common.{◌-◌, ◌^◌, []}
use Rattle.pattern_rel.proofs.LeftLaws.{opened_none, opened_first, opened_ascends, opened_known, opened_within}
use Rattle.pattern_rel.proofs.walk.open_first.Goals as goal

pub returns-clause-none : goal.returns-clause-none
returns-clause-none c = opened_none (2 ^ 32 - 1) (2 ^ 32 - 1) _ _ _ [] c.lines_ascend.ensures _ _ c.open_next.ensures.none

pub returns-clause-first : goal.returns-clause-first
returns-clause-first c = opened_first (2 ^ 32 - 1) (2 ^ 32 - 1) _ _ _ _ c.lines_ascend.ensures _ _ c.open_next.ensures.found

pub returns-clause-ascend : goal.returns-clause-ascend
returns-clause-ascend c = opened_ascends (2 ^ 32 - 1) (2 ^ 32 - 1) _ _ _ _ c.lines_ascend.ensures _ _ c.open_next.ensures.found

pub returns-clause-known : goal.returns-clause-known
returns-clause-known c = opened_known 0 0 _ _ _ _ _ _ c.open_next.ensures.found

pub returns-clause-within : goal.returns-clause-within
returns-clause-within c = opened_within 0 0 _ _ _ _ _ _ c.open_next.ensures.found
