use Rattle.join_graph.proofs.Bits.{HasSize-ones}
use Rattle.join_graph.proofs.Counts.{HasSize-members}
use Rattle.join_graph.proofs.removal.count_members.Goals as goal

pub returns-clause-members : goal.returns-clause-members
returns-clause-members c =
    HasSize-members c.args.sets.now c.variables_of.result _ c.variables_of.ensures (HasSize-ones c.variables_of.result)
