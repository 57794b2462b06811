use Rattle.pattern_rel.proofs.NextLaws.{turned_next}
use Rattle.pattern_rel.proofs.next.next_above.Goals as goal

pub returns-in-Some : goal.returns-in-Some
returns-in-Some c = turned_next _ _ _ _ _ _ _ c.in-Some.ensures c.partners.ensures c.first_in.ensures.next
