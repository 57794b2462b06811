use Rattle.match_relations.proofs.ShapeLaws.{lists_after_subject}
use Rattle.match_relations.proofs.shapes.after_subject.Goals as goal

pub returns-clause-lists : goal.returns-clause-lists
returns-clause-lists c = λ p o. rw c.slice.ensures (lists_after_subject _ _ _ p o)
