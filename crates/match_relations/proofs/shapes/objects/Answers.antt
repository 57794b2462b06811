use Rattle.match_relations.proofs.ShapeLaws.{lists_objects}
use Rattle.match_relations.proofs.shapes.objects.Goals as goal

pub returns-clause-lists : goal.returns-clause-lists
returns-clause-lists c = λ o.
    let ascend = rw c.slice.ensures at c.row.ensures.ascend in
    rw (c.one_row.ensures.lines, c.row.ensures.row, c.slice.ensures) (lists_objects _ _ _ _ o ascend)
