use Rattle.std.proofs.Common.{◌≡◌, ◌<◌, length, get_or, bit_and, sym, subst, arith}
use Rattle.std.specs.Int.{bit_at}
use Rattle.node_plans.specs.NodePlan.{AreSetsOf}
use Rattle.prune_plan.proofs.GatherLaws.{taken_step, taken_all}
use Rattle.prune_plan.proofs.Layouts.{var_stays}
use Rattle.prune_plan.proofs.Places.{edge_is_var}
use Rattle.prune_plan.proofs.Sets.{both_bits, own_is, inside_sets}
use Rattle.prune_plan.proofs.starts.gather_parent.Goals as goal

pub gather_each-requires-clause-there : goal.gather_each-requires-clause-there
gather_each-requires-clause-there c = λ v low own.
    let tree = c.args.tree.now in
    let sets = c.as_slice-sets.result.now in
    let are = subst (AreSetsOf tree c.args.parent) (sym c.as_slice-sets.ensures) c.node_sets-sets.ensures.sets in
    let old = c.args.prepared.now in
    let edge = (are c.loop-place.place v).0 (both_bits (get_or sets c.loop-place.place 0) c.args.wanted v own).0 in
    var_stays old c.loop-place.prepared c.loop-place.invariant.1.1.1 c.loop-place.place v (edge_is_var tree old c.requires.fits c.requires.accepted c.args.parent c.loop-place.place v edge)

pub loop-place-preserved : goal.loop-place-preserved
loop-place-preserved c =
    let tree = c.args.tree.now in
    let sets = c.as_slice-sets.result.now in
    let are = subst (AreSetsOf tree c.args.parent) (sym c.as_slice-sets.ensures) c.node_sets-sets.ensures.sets in
    let limits = c.node_sets-sets.ensures.limits in
    let n = c.loop-place.place in
    taken_step tree c.args.parent c.args.prepared.now c.args.kinds.now c.args.wanted n c.loop-place.prepared c.gather_each.new.prepared c.loop-place.kinds c.gather_each.new.kinds
    (λ v. (v < 64) × (bit_at (bit_and (get_or sets n 0) c.args.wanted) v ≡ 1)) (own_is tree c.args.parent sets are limits n c.args.wanted) c.loop-place.invariant
    (λ v x. (
      λ h. (let both = (c.gather_each.ensures.values v x).0 h in (both.0, λ own. both.1 own.0 own.1)),
      λ h. (c.gather_each.ensures.values v x).1 (h.0, λ low one. h.1 (low, one)),
    ))
    (c.gather_each.ensures.lists, (c.gather_each.ensures.bits, c.gather_each.ensures.layout))

pub returns-clause-values : goal.returns-clause-values
returns-clause-values c = λ v x wanted.
    let tree = c.args.tree.now in
    let sets = c.as_slice-sets.result.now in
    let are = subst (AreSetsOf tree c.args.parent) (sym c.as_slice-sets.ensures) c.node_sets-sets.ensures.sets in
    let past : length sets ≡ c.loop-place.place = omega arith in
    taken_all tree c.args.parent c.args.prepared.now c.args.kinds.now c.args.wanted c.loop-place.place c.loop-place.prepared c.loop-place.kinds
    (λ i v edge. subst (λ n. i < n) past (inside_sets tree c.args.parent sets are i v edge)) c.loop-place.invariant v x wanted
