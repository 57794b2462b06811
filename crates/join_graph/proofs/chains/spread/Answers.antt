use Rattle.std.proofs.Common.{arith}
use Rattle.std.proofs.lemmas.Bool.{both_ways}
use Rattle.std.proofs.lemmas.Nat.{le_or_l}
use Rattle.join_graph.specs.Members.{HasVariable}
use Rattle.join_graph.proofs.Joins.{SpreadBelow-taken, SpreadBelow-passed}
use Rattle.join_graph.proofs.chains.spread.Goals as goal
use Rattle.join_graph.proofs.chains.spread.Goals.{then-meet, else-meet}

pub loop-set-preserved : goal.loop-set-preserved
loop-set-preserved c =
    let sets = c.args.sets.now in
    let reached = HasVariable c.args.reached in
    elim c.if-meet.branch [
      | then-meet w ↦
          rw w.wider-is (
            omega (arith, le_or_l),
            SpreadBelow-taken sets c.loop-set.set-index c.loop-set.wider reached (c.meet.ensures.0 w.if-meet.true) c.loop-set.invariant.1,
          )
      | else-meet w ↦
          rw w.wider-is (
            c.loop-set.invariant.0,
            SpreadBelow-passed sets c.loop-set.set-index c.loop-set.wider reached (λ m. both_ways _ w.if-meet.false (c.meet.ensures.1 m)) c.loop-set.invariant.1,
          )
    ]
