use Rattle.std.proofs.Common.{arith}
use Rattle.pattern_rel.proofs.ShapeLaws.{IsCandidate-next, passed_row}
use Rattle.pattern_rel.proofs.shape.row_candidate.Goals as goal

pub returns-else-row-n-clause-candidate : goal.returns-else-row-n-clause-candidate
returns-else-row-n-clause-candidate c =
    IsCandidate-next _ _ _ _ _
    (λ m at before. passed_row m _ _ _ _ _ c.rows.ensures.ascend c.requires.known c.row_at-row.ensures.line at before)
    (omega (arith, c.in_ok-n.ensures.next.0, c.if-row-n.false))
    c.next_in-else-row-n.ensures.next
