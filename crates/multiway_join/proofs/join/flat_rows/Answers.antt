use Rattle.std.proofs.Common.{List, [], length, map, All, sym, ap, subst, arith}
use Rattle.std.proofs.lemmas.List.{length-map}
use Rattle.alg_model.specs.Limits.{max_variables}
use Rattle.pattern_tree.proofs.TreeSizes.{few_nodes}
use Rattle.multiway_join.specs.declared.order.JoinNode.{JoinNode}
use Rattle.multiway_join.specs.Joined.{count_left}
use Rattle.multiway_join.specs.steps.Search.{Lists, as_node, flat_cells, CanJoinNode}
use Rattle.multiway_join.proofs.JoinedRows.{are_flat_rows}
use Rattle.multiway_join.proofs.Starting.{can_join, as_many, ordered_can}
use Rattle.multiway_join.proofs.join.flat_rows.Goals as goal

pub ordered_nodes-requires-clause-can : goal.ordered_nodes-requires-clause-can
ordered_nodes-requires-clause-can c =
    can_join c.args.tree.now c.nodes.ensures.pattern c.args.prepared.now c.requires.fits max_variables
    (λ k var occurs. let low = c.requires.below k var occurs in let few = c.requires.few in omega (arith, low, few))

pub join_nodes-requires-clause-few_nodes : goal.join_nodes-requires-clause-few_nodes
join_nodes-requires-clause-few_nodes c =
    let nodes = c.in_ok-nodes.nodes.items in
    let as_long = as_many (count_left c.args.prepared.now) [] c.args.tree.now (map as_node nodes) c.in_ok-nodes.ensures in
    omega (arith, ap length c.deref.ensures.value, length-map nodes as_node, as_long, few_nodes c.args.tree.now c.nodes.ensures.pattern)

pub join_nodes-requires-clause-nodes : goal.join_nodes-requires-clause-nodes
join_nodes-requires-clause-nodes c =
    let p = c.args.prepared.now in
    let nodes = c.in_ok-nodes.nodes.items in
    subst (λ (nodes : List JoinNode). All (CanJoinNode p c.args.vars) (map as_node nodes)) (sym c.deref.ensures.value)
    (ordered_can (count_left p) p c.args.vars [] c.args.tree.now (map as_node nodes) c.in_ok-nodes.ensures
    (can_join c.args.tree.now c.nodes.ensures.pattern p c.requires.fits c.args.vars c.requires.below))

pub returns : goal.returns
returns c = record {
  rows =
      let p = c.args.prepared.now in
      let tree = c.args.tree.now in
      let nodes = c.in_ok-nodes.nodes.items in
      let can = ordered_can (count_left p) p c.args.vars [] tree (map as_node nodes) c.in_ok-nodes.ensures (can_join tree c.nodes.ensures.pattern p c.requires.fits c.args.vars c.requires.below) in
      let listed : Lists (flat_cells p (map as_node nodes) c.args.vars) c.new-rows.result c.join_nodes.new.rows =
      subst (λ (nodes : List JoinNode). Lists (flat_cells p (map as_node nodes) c.args.vars) c.new-rows.result c.join_nodes.new.rows) c.deref.ensures.value c.in_ok-join_nodes.ensures in
      are_flat_rows p c.args.vars tree (map as_node nodes) c.requires.fits.together c.in_ok-nodes.ensures can c.new-rows.result c.join_nodes.new.rows c.new-rows.ensures.rows c.new-rows.ensures.vars listed;
}
