use Rattle.std.proofs.Common.{◌<◌, ◌+◌, inl, inr, refl, sym, subst, arith}
use Rattle.std.proofs.lemmas.Bool.{cases_eq}
use Rattle.node_plans.specs.NodePlan.{IsForestNode}
use Rattle.node_plans.proofs.plan.all_forests.Goals as goal

pub returns : goal.returns
returns c = (λ is k low. c.loop-node.invariant k (omega arith), λ all. refl)

pub loop-node-preserved : goal.loop-node-preserved
loop-node-preserved c = λ k low.
    let more : k < c.loop-node.node + 1 = low in
    elim (cases_eq k c.loop-node.node) as (λ _. IsForestNode c.args.tree.now k) [
      | inl is ↦ subst (IsForestNode c.args.tree.now) (sym is) (c.is_forest.ensures.0 c.if-not-is_forest.false)
      | inr other ↦ c.loop-node.invariant k (omega arith)
    ]
