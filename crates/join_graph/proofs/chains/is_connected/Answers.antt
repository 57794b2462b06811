use Rattle.std.proofs.Common.{refl, arith}
use Rattle.join_graph.specs.Members.{HasVariable, PatternHas}
use Rattle.join_graph.specs.Reach.{joined_to}
use Rattle.join_graph.proofs.Bits.{HasVariable-some}
use Rattle.join_graph.proofs.Joins.{EachMeets-same, IsConnected-empty, IsConnected-from_meets}
use Rattle.join_graph.proofs.chains.is_connected.Goals as goal

pub returns-then-set-ne0 : goal.returns-then-set-ne0
returns-then-set-ne0 c =
    let sets = c.args.sets.now in
    let i = c.loop-set.set-index in
    let at = HasVariable-some _ (omega (arith, c.type_inv.sets i)) c.if-set-ne0.true in
    let same = EachMeets-same sets (HasVariable c.joined.result) (joined_to sets (PatternHas sets i)) c.joined.ensures in
    let connected = IsConnected-from_meets sets i at.0 at.1 in (
      λ h. connected.0 (same.0 (c.all_meet.ensures.0 h)),
      λ h. c.all_meet.ensures.1 (same.1 (connected.1 h)),
    )

pub returns : goal.returns
returns c = (λ e. IsConnected-empty c.args.sets.now (λ p lt. c.loop-set.invariant p (omega arith)), λ connected. refl)
