use Rattle.std.proofs.Common.{◌≡◌, ◌<◌, length, get_or, sym, ap, subst, arith}
use Rattle.std.proofs.lemmas.Option.{get_or_from_slice_get}
use Rattle.node_plans.specs.Placed.{IsPlaced}
use Rattle.pruning_laws.specs.Shown.{entry_of}
use Rattle.prune_plan.proofs.Clearing.{AreCleared, cleared_none, cleared_more, cleared_here, cleared_others, stands_there}
use Rattle.prune_plan.proofs.Layouts.{entries_stay}
use Rattle.prune_plan.proofs.Places.{has_entry}
use Rattle.prune_plan.proofs.lives.empty_node.Goals as goal

pub loop-i-init : goal.loop-i-init
loop-i-init c = cleared_none c.args.prepared.now c.patterns_of-patterns.result c.requires.fits.together

pub overflow_sub-get : goal.overflow_sub-get
overflow_sub-get c =
    let patterns = c.patterns_of-patterns.result in
    let one = c.get.result.now in
    let placed = subst IsPlaced (get_or_from_slice_get patterns c.loop-i.i one one c.get.ensures) (c.patterns_of-patterns.ensures.placed c.loop-i.i one (omega arith)) in
    omega (arith, placed.some)

pub clear-requires-clause-there : goal.clear-requires-clause-there
clear-requires-clause-there c =
    let tree = c.args.tree.now in
    let old = c.args.prepared.now in
    let patterns = c.patterns_of-patterns.result in
    let one = c.get.result.now in
    let i = c.loop-i.i in
    let stands = stands_there tree c.args.node patterns c.patterns_of-patterns.ensures.patterns c.requires.node i one (omega arith) in
    let inside = has_entry tree old c.requires.fits c.args.node (entry_of one) (get_or patterns i one, stands, ap entry_of (get_or_from_slice_get patterns i one one c.get.ensures)) in
    subst (λ entries. entry_of one < length entries) (sym (entries_stay old c.loop-i.prepared c.loop-i.invariant.layout)) inside

pub loop-i-preserved : goal.loop-i-preserved
loop-i-preserved c =
    let patterns = c.patterns_of-patterns.result in
    let one = c.get.result.now in
    let i = c.loop-i.i in
    cleared_more c.args.prepared.now c.loop-i.prepared c.clear.new.prepared patterns i (entry_of one) (λ d. ap entry_of (get_or_from_slice_get patterns i one d c.get.ensures)) c.loop-i.invariant c.clear.ensures.none c.clear.ensures.others
    c.clear.ensures.narrows c.clear.ensures.layout

pub returns-clause-none : goal.returns-clause-none
returns-clause-none c = λ i place.
    let patterns = c.patterns_of-patterns.result in
    let past : c.loop-i.i ≡ length patterns = omega arith in
    cleared_here c.args.tree.now c.args.node patterns c.patterns_of-patterns.ensures.patterns c.args.prepared.now c.loop-i.prepared (subst (λ n. AreCleared c.args.prepared.now patterns n c.loop-i.prepared) past c.loop-i.invariant) i place

pub returns-clause-others : goal.returns-clause-others
returns-clause-others c = λ i none.
    let patterns = c.patterns_of-patterns.result in
    let past : c.loop-i.i ≡ length patterns = omega arith in
    cleared_others c.args.tree.now c.args.node patterns c.patterns_of-patterns.ensures.patterns c.requires.node c.args.prepared.now c.loop-i.prepared
    (subst (λ n. AreCleared c.args.prepared.now patterns n c.loop-i.prepared) past c.loop-i.invariant) i none
