use Rattle.std.proofs.Common.{◌∙◌}
use Rattle.pattern_rel.proofs.ShapeLaws.{beside_in_row, beside_in_column, beside_itself}
use Rattle.pattern_rel.proofs.shape.Shape.partners_by.Goals as goal

pub returns-in-OneRow : goal.returns-in-OneRow
returns-in-OneRow c = rw c.in-OneRow.is (c.one_if-in-OneRow.ensures ∙ beside_in_row _ _ _ c.test.ensures)

pub returns-in-Column : goal.returns-in-Column
returns-in-Column c =
    let ascend = rw c.in-Column.is at c.rows_ascend.ensures in
    let row = rw c.in-Column.is at c.requires in
    let has = rw row at c.row_has.ensures in
    rw c.in-Column.is (c.one_if-in-Column.ensures ∙ beside_in_column _ _ _ _ ascend has)

pub returns-in-Diagonal : goal.returns-in-Diagonal
returns-in-Diagonal c =
    let ascend = rw c.in-Diagonal.is at c.rows_ascend.ensures in
    let row = rw c.in-Diagonal.is at c.requires in
    let has = rw row at c.row_has_below.ensures in
    rw c.in-Diagonal.is (c.one_if-in-Diagonal.ensures ∙ beside_itself _ _ _ _ ascend has)
