use Rattle.pattern_tree.proofs.Pruning.{left_is_one}
use Rattle.pattern_tree.proofs.laws.left_is_one_law.Goals as goal

pub returns : goal.returns
returns g c = λ interpretation tree whole left other is is' k pattern stands. left_is_one interpretation tree whole left other is is' k pattern stands
