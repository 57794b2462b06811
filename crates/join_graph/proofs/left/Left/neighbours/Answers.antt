use Rattle.join_graph.specs.Left.{IsKept}
use Rattle.join_graph.proofs.Bits.{HasSize-and}
use Rattle.join_graph.proofs.Counts.{HasSize-around_pattern}
use Rattle.join_graph.proofs.left.Left.neighbours.Goals as goal

pub returns-in-Pattern : goal.returns-in-Pattern
returns-in-Pattern c =
    rw c.in-Pattern.is (HasSize-around_pattern c.args.sets.now (IsKept c.args.self.now) c.in-Pattern.place _ (HasSize-and _ c.args.self.now.variables))

pub returns-in-Variable : goal.returns-in-Variable
returns-in-Variable c = rw c.in-Variable.is c.patterns_with.ensures
