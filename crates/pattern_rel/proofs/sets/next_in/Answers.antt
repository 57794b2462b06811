use Rattle.pattern_rel.proofs.SetLaws.{IsNext-least, IsNext-within}
use Rattle.pattern_rel.proofs.sets.next_in.Goals as goal

pub returns-clause-next : goal.returns-clause-next
returns-clause-next c = IsNext-least _ _ _ c.first_at_least.ensures

pub returns-clause-within : goal.returns-clause-within
returns-clause-within c = IsNext-within _ _ _ (IsNext-least _ _ _ c.first_at_least.ensures)
