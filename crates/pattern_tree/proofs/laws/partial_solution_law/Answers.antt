use Rattle.pattern_tree.proofs.PatternTrees.{partial-joined, partial-optional, partial-basic}
use Rattle.pattern_tree.proofs.laws.partial_solution_law.Goals as goal

pub returns-clause-joined : goal.returns-clause-joined
returns-clause-joined g c = λ interpretation n family left right tells row. partial-joined interpretation n family tells left right row

pub returns-clause-optional : goal.returns-clause-optional
returns-clause-optional g c = λ interpretation n family left right tells row. partial-optional interpretation n family tells left right row

pub returns-clause-basic : goal.returns-clause-basic
returns-clause-basic g c = λ interpretation n patterns triples tells below row. partial-basic interpretation tells n triples patterns below row
