use Rattle.pattern_rel.proofs.ShapeLaws.{row_lines-ascend, column-ascend, diagonal-ascend}
use Rattle.pattern_rel.proofs.shape.Shape.lines_ascend.Goals as goal

pub returns-in-OneRow : goal.returns-in-OneRow
returns-in-OneRow c = rw c.in-OneRow.is (row_lines-ascend 0 _ c.iter.ensures.row.ascends)

pub returns-in-Column : goal.returns-in-Column
returns-in-Column c = rw c.in-Column.is (column-ascend _ _ c.rows.ensures.ascend)

pub returns-in-Diagonal : goal.returns-in-Diagonal
returns-in-Diagonal c = rw c.in-Diagonal.is (diagonal-ascend _ _ c.rows-in-Diagonal.ensures.ascend)
