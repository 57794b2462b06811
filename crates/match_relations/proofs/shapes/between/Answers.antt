use Rattle.match_relations.proofs.ShapeLaws.{lists_between}
use Rattle.match_relations.proofs.shapes.between.Goals as goal

pub returns-clause-lists : goal.returns-clause-lists
returns-clause-lists c = λ p. rw c.slice.ensures (lists_between _ _ _ _ p)
