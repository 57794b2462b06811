use Rattle.pattern_tree.proofs.Choices.{shared_in_root}
use Rattle.pattern_tree.proofs.laws.shared_variable_law.Goals as goal

pub returns : goal.returns
returns c = λ outside part fine var at out. shared_in_root part outside fine var at out
