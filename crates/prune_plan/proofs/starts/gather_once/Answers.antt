use Rattle.std.proofs.Common.{◌≡◌, ◌<◌, length, get_or, refl, sym, subst, arith}
use Rattle.node_plans.specs.NodePlan.{AreSetsOf}
use Rattle.prune_plan.proofs.AskedOnce.{asked_none, asked_step, asked_all}
use Rattle.prune_plan.proofs.Layouts.{var_stays}
use Rattle.prune_plan.proofs.Places.{edge_is_var}
use Rattle.prune_plan.proofs.Sets.{both_bits, inside_sets}
use Rattle.prune_plan.proofs.starts.gather_once.Goals as goal

pub loop-place-init : goal.loop-place-init
loop-place-init c =
    let old = c.args.prepared.now in
    asked_none c.args.tree.now c.args.parent old c.args.kinds.now c.args.wanted (λ i. refl, (refl, record { same = refl; fits = c.requires.fits.together }))

pub gather_each-requires-clause-there : goal.gather_each-requires-clause-there
gather_each-requires-clause-there c = λ v low own.
    let tree = c.args.tree.now in
    let sets = c.as_slice-sets.result.now in
    let are = subst (AreSetsOf tree c.args.parent) (sym c.as_slice-sets.ensures) c.node_sets-sets.ensures.sets in
    let old = c.args.prepared.now in
    let edge = (are c.loop-place.place v).0 (both_bits (get_or sets c.loop-place.place 0) c.loop-place.left v own).0 in
    var_stays old c.loop-place.prepared c.loop-place.invariant.1.1.1 c.loop-place.place v (edge_is_var tree old c.requires.fits c.requires.accepted c.args.parent c.loop-place.place v edge)

pub loop-place-preserved : goal.loop-place-preserved
loop-place-preserved c =
    let tree = c.args.tree.now in
    let sets = c.as_slice-sets.result.now in
    let are = subst (AreSetsOf tree c.args.parent) (sym c.as_slice-sets.ensures) c.node_sets-sets.ensures.sets in
    asked_step tree c.args.parent c.args.prepared.now c.args.kinds.now c.args.wanted sets are c.node_sets-sets.ensures.limits c.loop-place.place c.loop-place.left c.loop-place.prepared c.gather_each.new.prepared
    c.loop-place.kinds c.gather_each.new.kinds c.loop-place.invariant c.gather_each.ensures.values (c.gather_each.ensures.lists, (c.gather_each.ensures.bits, c.gather_each.ensures.layout))

pub returns-clause-values : goal.returns-clause-values
returns-clause-values c = λ v wanted.
    let tree = c.args.tree.now in
    let sets = c.as_slice-sets.result.now in
    let are = subst (AreSetsOf tree c.args.parent) (sym c.as_slice-sets.ensures) c.node_sets-sets.ensures.sets in
    let past : length sets ≡ c.loop-place.place = omega arith in
    asked_all tree c.args.parent c.args.prepared.now c.args.kinds.now c.args.wanted c.loop-place.place c.loop-place.left c.loop-place.prepared c.loop-place.kinds
    (λ i v edge. subst (λ n. i < n) past (inside_sets tree c.args.parent sets are i v edge)) c.loop-place.invariant v wanted
