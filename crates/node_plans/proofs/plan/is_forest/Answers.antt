use Rattle.std.proofs.Common.{sym, ◌∙◌, subst, eqb-true, eq-eqb}
use Rattle.node_plans.specs.NodePlan.{AreSetsOf}
use Rattle.node_plans.proofs.NodePlans.{core_is_empty, forest_is_empty, forest_node, node_forest}
use Rattle.node_plans.proofs.plan.is_forest.Goals as goal

pub returns : goal.returns
returns c =
    let tree = c.args.tree.now in
    let sets = c.as_slice.result.now in
    let are = subst (AreSetsOf tree c.args.node) (sym c.as_slice.ensures) c.node_sets-sets.ensures.sets in
    let size = c.strip.ensures.core in (
      λ is. forest_node tree c.args.node sets are (core_is_empty sets c.strip.result.core size (sym c.core.ensures ∙ eqb-true c.core.result 0 is)),
      λ forest. eq-eqb c.core.result 0 (c.core.ensures ∙ forest_is_empty sets c.strip.result.core size (node_forest tree c.args.node sets are forest)),
    )
