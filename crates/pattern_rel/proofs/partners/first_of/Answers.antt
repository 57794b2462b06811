use Rattle.std.proofs.Common.{◌-◌, ◌^◌}
use Rattle.pattern_rel.proofs.LeftLaws.{stepped_some, stepped_none, stepped_up}
use Rattle.pattern_rel.proofs.partners.first_of.Goals as goal

pub returns-clause-none : goal.returns-clause-none
returns-clause-none c = stepped_none _ _ _ _ c.first_in.ensures.next

pub returns-clause-first : goal.returns-clause-first
returns-clause-first c = stepped_some (2 ^ 32 - 1) _ _ _ _ c.requires.ascend c.first_in.ensures.next

pub returns-clause-up : goal.returns-clause-up
returns-clause-up c = stepped_up _ _ _ _ c.first_in.ensures.next
