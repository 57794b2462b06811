use Rattle.pattern_tree.proofs.Connected.{tree-connected}
use Rattle.pattern_tree.proofs.laws.connected_law.Goals as goal

pub returns : goal.returns
returns c = tree-connected
