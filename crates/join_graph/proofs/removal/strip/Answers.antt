use Rattle.join_graph.specs.Left.{IsKept}
use Rattle.join_graph.proofs.Sizes.{HasSize-positive}
use Rattle.join_graph.proofs.Cores.{core_is_largest}
use Rattle.join_graph.proofs.Removals.{IsUnderWay-start, IsUnderWay-step, IsUnderWay-end, IsLeaf-from_next, IsRemoval-from_order, IsRemovalOrder-unique, LeavesCore-from_removal, IsForest-from_core, PartsNeighbours-from_all}
use Rattle.join_graph.proofs.Parts.{IsForest-part}
use Rattle.join_graph.proofs.removal.strip.Goals as goal

pub loop-step-init : goal.loop-step-init
loop-step-init c =
    IsUnderWay-start c.args.sets.now (IsKept c.all-left.result) c.new-order.result c.new-order.ensures.steps c.all-left.ensures
    (rw c.new-order.ensures.core c.count_members.ensures.members)

pub push-requires : goal.push-requires
push-requires c =
    let way = c.loop-step.invariant in
    let leaf = IsLeaf-from_next c.args.sets.now (IsKept c.loop-step.left) c.in-Some.step c.in-Some.ensures in
    HasSize-positive _ c.loop-step.order.core c.in-Some.step way.size ((way.rest c.in-Some.step).0 leaf.0)

pub loop-step-preserved : goal.loop-step-preserved
loop-step-preserved c =
    IsUnderWay-step c.args.sets.now (IsKept c.loop-step.left) (IsKept c.remove.new.self) c.loop-step.order c.push.new.self c.in-Some.step
    c.loop-step.invariant c.in-Some.ensures c.remove.ensures c.push.ensures.steps c.push.ensures.core

pub returns-clause-order : goal.returns-clause-order
returns-clause-order c = (IsUnderWay-end c.args.sets.now (IsKept c.loop-step.left) c.loop-step.order c.loop-step.invariant c.in_default.ensures).0

pub returns-clause-core : goal.returns-clause-core
returns-clause-core c = (IsUnderWay-end c.args.sets.now (IsKept c.loop-step.left) c.loop-step.order c.loop-step.invariant c.in_default.ensures).1

pub returns-clause-no_other_order : goal.returns-clause-no_other_order
returns-clause-no_other_order c =
    λ steps order. IsRemovalOrder-unique c.args.sets.now steps c.loop-step.order.steps order (returns-clause-order c)

pub returns-clause-leaves : goal.returns-clause-leaves
returns-clause-leaves c = IsRemoval-from_order c.args.sets.now c.loop-step.order.steps (returns-clause-order c)

pub returns-clause-rest_is_core : goal.returns-clause-rest_is_core
returns-clause-rest_is_core c = LeavesCore-from_removal c.args.sets.now

pub returns-clause-core_is_largest : goal.returns-clause-core_is_largest
returns-clause-core_is_largest c = core_is_largest c.args.sets.now

pub returns-clause-forest : goal.returns-clause-forest
returns-clause-forest c =
    IsForest-from_core c.args.sets.now c.loop-step.order.steps (LeavesCore-from_removal c.args.sets.now c.loop-step.order.steps (returns-clause-leaves c))

pub returns-clause-pairs : goal.returns-clause-pairs
returns-clause-pairs c =
    λ forest. PartsNeighbours-from_all c.args.sets.now c.loop-step.order.steps (returns-clause-leaves c) ((returns-clause-forest c).0 forest)

pub returns-clause-part_of_forest : goal.returns-clause-part_of_forest
returns-clause-part_of_forest c = λ part. IsForest-part part c.args.sets.now
