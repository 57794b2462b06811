use Rattle.std.proofs.Common.{ℕ, inl, inr, length, Contains, sym, ◌∙◌, subst, ap, arith}
use Rattle.join_graph.specs.Removal.{IsRemoval}
use Rattle.node_plans.specs.NodePlan.{AreSetsOf}
use Rattle.node_plans.proofs.NodePlans.{core_is_empty, forest_is_empty, node_forest, steps_few, steps_in_range, by_removal, removal_each, all_are_edges, edge_pair, pair_limits}
use Rattle.pruning_laws.specs.Plans.{AreEdges, pairs_by}
use Rattle.node_plans.proofs.plan.node_pairs.Goals as goal

pub removal_pairs-requires-clause-few : goal.removal_pairs-requires-clause-few
removal_pairs-requires-clause-few c =
    let tree = c.args.tree.now in
    let sets = c.as_slice.result.now in
    let are = subst (AreSetsOf tree c.args.node) (sym c.as_slice.ensures) c.node_sets-sets.ensures.sets in
    steps_few tree c.args.node sets are c.node_sets-sets.ensures.limits (omega (arith, ap (length {A = ℕ}) c.as_slice.ensures, c.node_sets-sets.ensures.few)) c.strip-order.result.steps c.strip-order.ensures.leaves

pub removal_pairs-requires-clause-in_range : goal.removal_pairs-requires-clause-in_range
removal_pairs-requires-clause-in_range c = λ m at.
    let tree = c.args.tree.now in
    let sets = c.as_slice-then-core-eq0.result.now in
    let same = c.as_slice.ensures ∙ sym c.as_slice-then-core-eq0.ensures in
    let are = subst (AreSetsOf tree c.args.node) (sym c.as_slice-then-core-eq0.ensures) c.node_sets-sets.ensures.sets in
    steps_in_range tree c.args.node sets are c.node_sets-sets.ensures.limits c.strip-order.result.steps (subst (λ sets. IsRemoval sets c.strip-order.result.steps) same c.strip-order.ensures.leaves) m at

pub returns-then-core-eq0-clause-forest : goal.returns-then-core-eq0-clause-forest
returns-then-core-eq0-clause-forest c = λ _.
    let tree = c.args.tree.now in
    let sets = c.as_slice.result.now in
    let again = c.as_slice-then-core-eq0.ensures ∙ sym c.as_slice.ensures in
    let are = subst (AreSetsOf tree c.args.node) (sym c.as_slice.ensures) c.node_sets-sets.ensures.sets in
    let steps = c.strip-order.result.steps in
    let forest = core_is_empty sets c.strip-order.result.core c.strip-order.ensures.core (sym c.core.ensures ∙ c.if-core-eq0.true) in
    by_removal tree c.args.node sets are steps c.removal_pairs.result c.strip-order.ensures.leaves (c.strip-order.ensures.forest.0 forest) (c.removal_pairs.ensures ∙ ap (λ sets. pairs_by sets steps) again)

pub returns-then-core-eq0-clause-plan : goal.returns-then-core-eq0-clause-plan
returns-then-core-eq0-clause-plan c =
    let tree = c.args.tree.now in
    let sets = c.as_slice.result.now in
    let again = c.as_slice-then-core-eq0.ensures ∙ sym c.as_slice.ensures in
    let are = subst (AreSetsOf tree c.args.node) (sym c.as_slice.ensures) c.node_sets-sets.ensures.sets in
    let steps = c.strip-order.result.steps in
    let forest = core_is_empty sets c.strip-order.result.core c.strip-order.ensures.core (sym c.core.ensures ∙ c.if-core-eq0.true) in
    inl (by_removal tree c.args.node sets are steps c.removal_pairs.result c.strip-order.ensures.leaves (c.strip-order.ensures.forest.0 forest) (c.removal_pairs.ensures ∙ ap (λ sets. pairs_by sets steps) again))

pub returns-then-core-eq0-clause-each : goal.returns-then-core-eq0-clause-each
returns-then-core-eq0-clause-each c = λ m n at.
    let tree = c.args.tree.now in
    let sets = c.as_slice-then-core-eq0.result.now in
    let are = subst (AreSetsOf tree c.args.node) (sym c.as_slice-then-core-eq0.ensures) c.node_sets-sets.ensures.sets in
    removal_each tree c.args.node sets are c.strip-order.result.steps m n (subst (λ pairs. Contains pairs (m, n)) c.removal_pairs.ensures at)

pub returns-then-core-eq0-clause-limits : goal.returns-then-core-eq0-clause-limits
returns-then-core-eq0-clause-limits c = λ m n at.
    pair_limits c.args.tree.now c.args.node c.node_sets-sets.ensures.limits m n (returns-then-core-eq0-clause-each c m n at)

pub returns-clause-plan : goal.returns-clause-plan
returns-clause-plan c =
    inr (subst (AreEdges c.args.tree.now c.args.node) (sym c.all_edges.ensures) (all_are_edges c.args.tree.now c.args.node c.placed.result c.placed.ensures.patterns c.requires))

pub returns-clause-forest : goal.returns-clause-forest
returns-clause-forest c = λ forest.
    let tree = c.args.tree.now in
    let sets = c.as_slice.result.now in
    let are = subst (AreSetsOf tree c.args.node) (sym c.as_slice.ensures) c.node_sets-sets.ensures.sets in
    let none = forest_is_empty sets c.strip-order.result.core c.strip-order.ensures.core (node_forest tree c.args.node sets are forest) in
    absurd (c.if-core-eq0.false (c.core.ensures ∙ none))

pub returns-clause-each : goal.returns-clause-each
returns-clause-each c = λ m n at.
    let edges = all_are_edges c.args.tree.now c.args.node c.placed.result c.placed.ensures.patterns c.requires in
    edge_pair c.args.tree.now c.args.node m n (edges.each m n (subst (λ pairs. Contains pairs (m, n)) c.all_edges.ensures at))

pub returns-clause-limits : goal.returns-clause-limits
returns-clause-limits c = λ m n at.
    pair_limits c.args.tree.now c.args.node c.node_sets-sets.ensures.limits m n (returns-clause-each c m n at)
