use Rattle.pattern_rel.proofs.ShapeLaws.{IsCandidate-row, IsCandidate-column, IsCandidate-diagonal}
use Rattle.pattern_rel.proofs.shape.Shape.candidate.Goals as goal

pub returns-in-OneRow-clause-candidate : goal.returns-in-OneRow-clause-candidate
returns-in-OneRow-clause-candidate c = rw c.in-OneRow.is (IsCandidate-row _ _ _ _ c.first_in_row.ensures.next)

pub returns-in-Column-clause-candidate : goal.returns-in-Column-clause-candidate
returns-in-Column-clause-candidate c =
    let ascend = rw c.in-Column.is at c.rows_ascend.ensures in
    rw c.in-Column.is (IsCandidate-column _ _ _ _ _ ascend c.row_candidate.ensures.candidate)

pub returns-in-Diagonal-clause-candidate : goal.returns-in-Diagonal-clause-candidate
returns-in-Diagonal-clause-candidate c =
    let ascend = rw c.in-Diagonal.is at c.rows_ascend.ensures in
    rw c.in-Diagonal.is (IsCandidate-diagonal _ _ _ _ _ ascend c.row_candidate-in-Diagonal.ensures.candidate)
