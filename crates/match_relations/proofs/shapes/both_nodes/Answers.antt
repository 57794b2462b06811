use Rattle.match_relations.proofs.ShapeLaws.{lists_both_nodes, transposed}
use Rattle.match_relations.proofs.shapes.both_nodes.Goals as goal

pub returns-clause-lists : goal.returns-clause-lists
returns-clause-lists c = λ s o apart. rw c.slice-rows.ensures (lists_both_nodes _ _ _ s o apart)

pub returns-clause-knows : goal.returns-clause-knows
returns-clause-knows c =
    let rows = rw c.slice-rows.ensures at c.rows.ensures.ascend in
    let columns = rw c.slice-columns.ensures at c.rows-2.ensures.ascend in
    rw (c.slice-rows.ensures, c.slice-columns.ensures) (transposed c.args.p c.args.index.now.numbering.triples rows columns)
