use Rattle.std.proofs.Common.{ℕ, ◌-◌, refl, subst, arith}
use Rattle.std.proofs.lemmas.List.{take_all, length-set}
use Rattle.std.proofs.lemmas.Option.{get_or_from_slice_get}
use Rattle.node_plans.specs.Placed.{IsPlaced}
use Rattle.node_plans.proofs.PlacedSets.{AreSetsAmong, sets_start, sets_more}
use Rattle.node_plans.proofs.sets.put_sets.Goals as goal

pub loop-i-init : goal.loop-i-init
loop-i-init c = (c.requires.length, sets_start c.args.sets.now c.requires.none)

pub loop-i-preserved : goal.loop-i-preserved
loop-i-preserved c =
    let patterns = c.args.patterns.now in
    let i = c.loop-i.i in
    let one = c.get-pattern.result.now in
    let here = get_or_from_slice_get patterns i one one c.get-pattern.ensures in
    let placed = subst IsPlaced here (c.requires.placed i one (omega arith)) in
    (omega (arith, length-set {A = ℕ}), sets_more patterns i one c.loop-i.sets (one.number - 1) c.vars.result c.loop-i.invariant.1 (omega arith) here refl c.vars.ensures.just (omega (arith, placed.low, placed.some)))

pub returns-clause-sets : goal.returns-clause-sets
returns-clause-sets c =
    subst (λ patterns. AreSetsAmong patterns c.loop-i.sets) (take_all c.loop-i.i c.args.patterns.now (omega arith)) c.loop-i.invariant.1
