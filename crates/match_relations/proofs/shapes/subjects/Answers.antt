use Rattle.match_relations.proofs.ShapeLaws.{lists_subjects}
use Rattle.match_relations.proofs.shapes.subjects.Goals as goal

pub returns-clause-lists : goal.returns-clause-lists
returns-clause-lists c = λ s.
    let ascend = rw c.slice.ensures at c.row.ensures.ascend in
    rw (c.one_row.ensures.lines, c.row.ensures.row, c.slice.ensures) (lists_subjects _ _ _ _ s ascend)
