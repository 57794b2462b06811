use Rattle.match_relations.proofs.ShapeLaws.{lists_one_node}
use Rattle.match_relations.proofs.shapes.one_node.Goals as goal

pub returns-clause-lists : goal.returns-clause-lists
returns-clause-lists c = λ s o same. rw (c.counts-counts.ensures.counts, c.slice.ensures) (lists_one_node _ _ _ s o same)
