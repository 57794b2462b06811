use Rattle.std.proofs.Common.{[]}
use Rattle.pattern_tree.proofs.PatternTrees.{law-exactly, law-covered, law-once}
use Rattle.pattern_tree.proofs.laws.pattern_tree_law.Goals as goal

pub returns-clause-exactly : goal.returns-clause-exactly
returns-clause-exactly g c = λ interpretation n pattern triples tells below fine row. law-exactly interpretation tells n triples pattern [] fine below row

pub returns-clause-once : goal.returns-clause-once
returns-clause-once g c = λ interpretation n pattern triples tells apart below fine once. law-once interpretation tells n triples pattern [] apart fine below once

pub returns-clause-covered : goal.returns-clause-covered
returns-clause-covered g c = λ interpretation n pattern triples tells below fine row is. law-covered interpretation tells n triples pattern [] fine below row is
