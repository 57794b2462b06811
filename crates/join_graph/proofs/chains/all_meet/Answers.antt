use Rattle.std.proofs.Common.{arith, inl, inr, slice_index}
use Rattle.std.proofs.lemmas.Bool.{both_ways, cases_eq, false≢true}
use Rattle.join_graph.proofs.Bits.{HasVariable-some}
use Rattle.join_graph.proofs.chains.all_meet.Goals as goal

pub returns-then-not-is_reached : goal.returns-then-not-is_reached
returns-then-not-is_reached c =
    let i = c.loop-set.set-index in
    let set = slice_index c.args.sets.now i in (
      λ e. absurd (false≢true e),
      λ each. absurd (both_ways _ c.if-not-is_reached.true (c.is_reached.ensures.1 (elim (cases_eq set 0) [
        | inl e ↦ inl e
        | inr ne ↦ let at = HasVariable-some set (omega (arith, c.type_inv.sets i)) ne in inr (each i at.0 at.1)
      ]))),
    )
