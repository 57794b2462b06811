use Rattle.std.proofs.Common.{ℕ, inl, inr}
use Rattle.join_graph.specs.Members.{HasVariable}
use Rattle.join_graph.specs.Chains.{here}
use Rattle.join_graph.specs.Reach.{spread_from}
use Rattle.join_graph.proofs.Joins.{joined_to-more, joined_to-closed}
use Rattle.join_graph.proofs.chains.joined.Goals as goal

pub loop-reached-init : goal.loop-reached-init
loop-reached-init c = (λ v h. h, λ v h. (v, h, here))

pub returns-then-wider-reached : goal.returns-then-wider-reached
returns-then-wider-reached c =
    let kept = c.loop-reached.invariant in
    let reached = HasVariable c.loop-reached.reached in
    let closed : (v : ℕ) → spread_from c.args.sets.now reached v → reached v =
    λ v h. rw c.if-wider-reached.true at ((c.spread-wider.ensures.spread v).1 h) in
    λ v. (kept.1 v, λ h. joined_to-closed c.args.sets.now reached v closed (h.0, kept.0 h.0 h.1, h.2))

pub loop-reached-preserved : goal.loop-reached-preserved
loop-reached-preserved c =
    let kept = c.loop-reached.invariant in
    let spread = c.spread-wider.ensures.spread in (
      λ v h. (spread v).1 (inl (kept.0 v h)),
      λ v h. elim ((spread v).0 h) [
        | inl l ↦ kept.1 v l
        | inr r ↦ joined_to-more c.args.sets.now (HasVariable c.args.start) r.0 r.1.0 v (kept.1 r.1.0 r.1.2) r.1.1 r.2
      ],
    )
