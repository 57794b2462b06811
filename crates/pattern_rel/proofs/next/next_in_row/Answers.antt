use Rattle.pattern_rel.proofs.NextLaws.{row_found}
use Rattle.pattern_rel.proofs.next.next_in_row.Goals as goal

pub returns : goal.returns
returns c = rw c.in_row.ensures (row_found _ _ _ _ _ _ _ c.requires.seconds_few c.start_in_row-at.ensures c.next_beside.ensures)
