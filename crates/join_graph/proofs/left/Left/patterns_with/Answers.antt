use Rattle.std.proofs.Common.{◌≡◌, length, arith}
use Rattle.std.proofs.lemmas.Bool.{both_ways}
use Rattle.join_graph.specs.Left.{IsKept}
use Rattle.join_graph.proofs.Sizes.{HasSize-none, HasSize-more, HasSize-skip}
use Rattle.join_graph.proofs.Counts.{HasInSet, HasSize-around_variable}
use Rattle.join_graph.proofs.left.Left.patterns_with.Goals as goal
use Rattle.join_graph.proofs.left.Left.patterns_with.Goals.{then-self-place+then-has, else-self-place, else-self-place-via-then-self-place+else-has, else-self-place-via-else-self-place}

pub loop-place-init : goal.loop-place-init
loop-place-init c = (omega arith, HasSize-none _ (λ p h. omega (arith, h.0)))

pub loop-place-preserved : goal.loop-place-preserved
loop-place-preserved c =
    let P = HasInSet c.args.sets.now (IsKept c.args.self.now) c.args.variable in
    let i = c.loop-place.place in
    elim c.if-self-place.branch [
      | then-self-place+then-has w ↦
          rw w.count-is (omega arith, HasSize-more P i c.loop-place.count c.loop-place.invariant.1 (w.if-self-place.true, w.has.ensures.0 w.if-has.true))
      | else-self-place w ↦
          rw w.count-is (
            omega arith,
            HasSize-skip P i c.loop-place.count c.loop-place.invariant.1
                (λ h. elim w.else-self-place.branch [
                  | else-self-place-via-then-self-place+else-has w' ↦ both_ways _ w'.if-has.false (w'.has.ensures.1 h.1)
                  | else-self-place-via-else-self-place w' ↦ both_ways _ w'.if-self-place.false h.0
                ]
                ),
          )
    ]

pub returns : goal.returns
returns c =
    let all : c.loop-place.place ≡ length c.args.sets.now = omega arith in
    HasSize-around_variable c.args.sets.now (IsKept c.args.self.now) c.args.variable c.loop-place.count (rw (← all) c.loop-place.invariant.1)
