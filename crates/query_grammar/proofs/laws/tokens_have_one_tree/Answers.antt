use Rattle.query_grammar.proofs.GrammarLaws.{one-labelling, one-tree}
use Rattle.query_grammar.proofs.laws.tokens_have_one_tree.Goals as goal

pub returns-clause-roles : goal.returns-clause-roles
returns-clause-roles c = one-labelling

pub returns-clause-tree : goal.returns-clause-tree
returns-clause-tree c = one-tree
