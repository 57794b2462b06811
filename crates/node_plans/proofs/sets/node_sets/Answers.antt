use Rattle.node_plans.proofs.Limits.{from_edge, to_edge}
use Rattle.node_plans.proofs.PlacedSets.{sets_cut, empty_sets, edge_below, low_edge}
use Rattle.node_plans.proofs.sets.node_sets.Goals as goal

pub put_sets-requires-clause-none : goal.put_sets-requires-clause-none
put_sets-requires-clause-none c = λ p. empty_sets p

pub returns-clause-sets : goal.returns-clause-sets
returns-clause-sets c = λ p v.
    let patterns = c.placed-patterns.result in
    let put = c.put_sets.ensures.sets p v in
    let cut = sets_cut c.put_sets.new.sets c.last_number.result p v (λ has. edge_below patterns c.last_number.result p v c.placed-patterns.ensures.placed c.last_number.ensures.last (put.0 has)) in (
      λ has. to_edge c.args.tree.now c.args.node patterns p v c.placed-patterns.ensures.patterns c.requires (put.0 (cut.0 has)),
      λ edge. cut.1 (put.1 (from_edge c.args.tree.now c.args.node patterns p v c.placed-patterns.ensures.patterns edge)),
    )

pub returns-clause-limits : goal.returns-clause-limits
returns-clause-limits c = λ p v edge.
    low_edge c.placed-patterns.result p v c.placed-patterns.ensures.placed (from_edge c.args.tree.now c.args.node c.placed-patterns.result p v c.placed-patterns.ensures.patterns edge)
