use Rattle.std.proofs.Common.{arith}
use Rattle.join_graph.proofs.Bits.{HasVariable-below, HasVariable-without}
use Rattle.join_graph.proofs.variables.remove.Goals as goal

pub overflow_shl-result : goal.overflow_shl-result
overflow_shl-result c = HasVariable-below c.args.set c.args.variable (omega arith) c.requires

pub returns : goal.returns
returns c =
    λ v. HasVariable-without c.args.set c.args.variable v (omega arith) (HasVariable-below c.args.set c.args.variable (omega arith) c.requires)
