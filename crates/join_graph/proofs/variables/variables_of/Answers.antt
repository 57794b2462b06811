use Rattle.std.proofs.Common.{inl, inr, arith}
use Rattle.join_graph.proofs.Bits.{HasVariable-zero, HasVariable-or}
use Rattle.join_graph.proofs.Members.{OccursBelow-more, OccursBelow-all}
use Rattle.join_graph.proofs.variables.variables_of.Goals as goal

pub loop-set-init : goal.loop-set-init
loop-set-init c = λ v. (λ h. absurd (HasVariable-zero v h), λ h. omega (arith, h.1))

pub loop-set-preserved : goal.loop-set-preserved
loop-set-preserved c =
    λ v.
    let either = HasVariable-or c.loop-set.all _ v in
    let more = OccursBelow-more c.args.sets.now c.loop-set.set-index v in
    let before = c.loop-set.invariant v in (
      λ h. more.1 (elim (either.0 h) [ inl l ↦ inl (before.0 l) | inr r ↦ inr r ]),
      λ h. either.1 (elim (more.0 h) [ inl l ↦ inl (before.1 l) | inr r ↦ inr r ]),
    )

pub returns : goal.returns
returns c =
    λ v.
    let all = OccursBelow-all c.args.sets.now c.loop-set.set-index v (omega arith) in
    let before = c.loop-set.invariant v in
    (λ h. all.0 (before.0 h), λ h. before.1 (all.1 h))
