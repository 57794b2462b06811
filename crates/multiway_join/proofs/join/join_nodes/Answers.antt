use Rattle.std.proofs.Common.{map, All, refl, sym, subst}
use Rattle.multiway_join.specs.steps.Search.{as_node, CanJoinNode}
use Rattle.multiway_join.proofs.Searching.{first_node, rest_nodes}
use Rattle.multiway_join.proofs.Starting.{take_zeros}
use Rattle.multiway_join.proofs.join.join_nodes.Goals as goal

pub join_root-requires-clause-entry : goal.join_root-requires-clause-entry
join_root-requires-clause-entry c = take_zeros c.args.vars c.args.rows.now.vars _ c.requires.width refl c.requires.few

pub join_root-requires-clause-row : goal.join_root-requires-clause-row
join_root-requires-clause-row c = take_zeros c.args.vars c.args.rows.now.vars _ c.requires.width refl c.requires.few

pub join_root-requires-clause-root : goal.join_root-requires-clause-root
join_root-requires-clause-root c =
    let P = CanJoinNode c.args.prepared.now c.args.vars in
    subst (λ n. CanJoinNode c.args.prepared.now n (as_node c.in-Some.root.now)) (sym c.requires.width)
    (first_node P c.args.nodes.now c.in-Some.nodes.now c.in-Some.root.now c.in-Some.ensures.cases.0 c.requires.nodes)

pub join_root-requires-clause-nodes : goal.join_root-requires-clause-nodes
join_root-requires-clause-nodes c =
    let P = CanJoinNode c.args.prepared.now c.args.vars in
    subst (λ n. All (CanJoinNode c.args.prepared.now n) (map as_node c.in-Some.nodes.now)) (sym c.requires.width)
    (rest_nodes P c.args.nodes.now c.in-Some.nodes.now c.in-Some.root.now c.in-Some.ensures.cases.0 c.requires.nodes)
