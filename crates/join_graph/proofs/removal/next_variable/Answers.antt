use Rattle.std.proofs.Common.{arith, slice_index_or}
use Rattle.join_graph.specs.declared.steps.Step.TheVariants.{Pattern, Variable}
use Rattle.join_graph.specs.Members.{Member}
use Rattle.join_graph.specs.Left.{HasTwoIfKept}
use Rattle.join_graph.proofs.Bits.{HasVariable-below}
use Rattle.join_graph.proofs.removal.next_variable.Goals as goal

pub returns : goal.returns
returns c = at_member
  where
    at_member : (m : Member) → HasTwoIfKept c.args.sets.now c.args.left.now m
    at_member (Pattern p) = c.requires.no_pattern p
    at_member (Variable v) =
        λ kept.
        let at = c.requires.members (Variable v) kept in
        let below = HasVariable-below (slice_index_or c.args.sets.now at.0 0) v (omega (arith, c.type_inv.sets at.0)) at.1 in
        c.loop-variable.invariant v (omega arith) kept
