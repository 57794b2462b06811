use Rattle.match_relations.proofs.ShapeLaws.{lists_one_triple}
use Rattle.match_relations.proofs.shapes.one_triple.Goals as goal

pub returns-clause-lists : goal.returns-clause-lists
returns-clause-lists c =
    let ascend = rw c.slice-slice.ensures at c.row.ensures.ascend in
    let there = rw (c.row.ensures.row, c.slice-slice.ensures) at c.row_has-there.ensures in
    rw c.ground_if.ensures.lines (lists_one_triple _ _ _ _ _ _ ascend there)
