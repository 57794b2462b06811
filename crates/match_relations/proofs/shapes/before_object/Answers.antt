use Rattle.match_relations.proofs.ShapeLaws.{lists_before_object}
use Rattle.match_relations.proofs.shapes.before_object.Goals as goal

pub returns-clause-lists : goal.returns-clause-lists
returns-clause-lists c = λ s p. rw c.slice.ensures (lists_before_object _ _ _ s p)
