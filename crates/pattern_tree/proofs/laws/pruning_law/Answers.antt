use Rattle.pattern_tree.proofs.Numbered.{numbered_tree}
use Rattle.pattern_tree.proofs.Pruning.{pruning-between}
use Rattle.pattern_tree.proofs.laws.pruning_law.Goals as goal

pub returns-clause-numbered : goal.returns-clause-numbered
returns-clause-numbered g c = numbered_tree

pub returns-clause-between : goal.returns-clause-between
returns-clause-between g c = λ interpretation n tree whole least family numbered greatest more part set row.
    pruning-between interpretation n tree whole least family numbered greatest more part set row
