use Rattle.std.proofs.Common.{rules}
use Rattle.pattern_rel.proofs.NextLaws.{column_found}
use Rattle.pattern_rel.proofs.next.next_in_column.Goals as goal

pub returns : goal.returns
returns c = rw c.in_column.ensures (column_found _ _ _ _ _ _ _ c.requires.firsts_few (c.has.ensures.0 (search rules)) c.start_in_column-from.ensures c.next_above.ensures)
