use Rattle.std.proofs.Common.{[]}
use Rattle.pattern_tree.proofs.PatternTrees.{maximal-joined, maximal-optional}
use Rattle.pattern_tree.proofs.laws.maximal_solution_law.Goals as goal

pub returns-clause-joined : goal.returns-clause-joined
returns-clause-joined g c = λ interpretation n left right triples tells below fine row. maximal-joined interpretation tells n triples left right [] fine below row

pub returns-clause-optional : goal.returns-clause-optional
returns-clause-optional g c = λ interpretation n left right triples tells below fine row. maximal-optional interpretation tells n triples left right [] fine below row
