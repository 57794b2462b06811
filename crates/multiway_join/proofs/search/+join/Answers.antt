use Rattle.std.proofs.Common.{◌≡◌, ◌∙◌, List, ℕ, Some, length, map, arith, sym, subst, refl}
use Rattle.std.specs.Prelude.{All, OnOk, slice_get}
use Rattle.multiway_join.specs.declared.order.JoinPattern.{JoinPattern}
use Rattle.pattern_rel.specs.Left.{pairs_left}
use Rattle.multiway_join.specs.steps.Binding.{bind_pair, CanJoin}
use Rattle.multiway_join.specs.steps.Cursor.{coming}
use Rattle.multiway_join.specs.steps.Search.{as_node, cells_within, patterns_in, CanJoinNode, Lists, ListsPair}
use Rattle.multiway_join.proofs.Ready.{is_ready}
use Rattle.multiway_join.proofs.Searching.{first_node, rest_nodes, first_pattern, rest_patterns, steps_true, steps_false, work_split, tried_cells}
use Rattle.multiway_join.proofs.search.+join.Goals as goal

pub from_node-parent_is_matched-requires : goal.from_node-parent_is_matched-requires
from_node-parent_is_matched-requires t c =
    (first_node (CanJoinNode c.args.prepared.now (length c.args.row.now)) c.args.nodes.now c.in-Some.nodes.now c.in-Some.node.now c.in-Some.ensures.cases.0 c.requires.nodes).parent

pub from_node-tried-requires : goal.from_node-tried-requires
from_node-tried-requires t c =
    let P = CanJoinNode c.args.prepared.now (length c.args.row.now) in
    let are = c.in-Some.ensures.cases.0 in
    let node = first_node P c.args.nodes.now c.in-Some.nodes.now c.in-Some.node.now are c.requires.nodes in
    let work = work_split c.args.nodes.now c.in-Some.nodes.now c.in-Some.node.now c.deref.result.now are c.deref.ensures.value in (
      omega (arith, c.decreases, work),
      (
        c.requires.together,
        (
          omega (arith, c.requires.few, c.in-Some.ensures.cases.1),
          (
            c.requires.width,
            (
              c.requires.narrow,
              (
                subst (λ (patterns : List JoinPattern). All (CanJoin c.args.prepared.now (length c.args.row.now)) (patterns_in patterns)) (sym c.deref.ensures.value) node.patterns,
                rest_nodes P c.args.nodes.now c.in-Some.nodes.now c.in-Some.node.now are c.requires.nodes,
              ),
            ),
          ),
        ),
      ),
    )

pub from_node-from_node-requires : goal.from_node-from_node-requires
from_node-from_node-requires t c =
    let are = c.in-Some.ensures.cases.0 in
    let work = work_split c.args.nodes.now c.in-Some.nodes.now c.in-Some.node.now c.in-Some.node.now.patterns.items are refl in (
      omega (arith, c.decreases, work),
      (
        c.requires.together,
        (
          omega (arith, c.requires.few, c.in-Some.ensures.cases.1),
          (
            omega arith,
            (
              c.requires.width,
              (
                c.requires.narrow,
                rest_nodes (CanJoinNode c.args.prepared.now (length c.args.row.now)) c.args.nodes.now c.in-Some.nodes.now c.in-Some.node.now are c.requires.nodes,
              ),
            ),
          ),
        ),
      ),
    )

pub from_node-returns-then-parent_is_matched-clause-listed : goal.from_node-returns-then-parent_is_matched-clause-listed
from_node-returns-then-parent_is_matched-clause-listed t c =
    subst (λ (rows : List (List ℕ)). OnOk c.tried.result (Lists rows c.args.rows.now c.tried.new.rows))
    (tried_cells c.args.prepared.now c.args.nodes.now c.in-Some.nodes.now c.in-Some.node.now c.deref.result.now c.args.k c.args.matched c.args.row.now c.requires.later c.in-Some.ensures.cases.0 c.deref.ensures.value c.if-parent_is_matched.ensures)
    c.tried.ensures.listed

pub with_pairs-loop-pair-preserved-then-branch : goal.with_pairs-loop-pair-preserved-then-branch
with_pairs-loop-pair-preserved-then-branch t c =
    let live = λ (entry : List ℕ). cells_within c.args.prepared.now (patterns_in c.args.patterns.now) (map as_node c.args.nodes.now) c.args.k c.args.matched entry in
    let bind = λ (row : List ℕ). bind_pair c.args.prepared.now c.args.relation.now row in
    let inv = c.loop-pair.invariant in
    let one = subst (λ (entry : List ℕ). ListsPair (live entry) (bind c.args.row.now c.in-Some.pair) c.in_ok-with_pair.field-0 c.loop-pair.rows c.with_pair.new.rows) inv.2
    (subst (λ (row : List ℕ). ListsPair (live c.loop-pair.entry) (bind row c.in-Some.pair) c.in_ok-with_pair.field-0 c.loop-pair.rows c.with_pair.new.rows) inv.1 c.in_ok-with_pair.ensures.listed) in (
      steps_true (live c.args.entry.now) (bind c.args.row.now) (pairs_left c.args.prepared.now.pool c.args.relation.now.rel) c.args.rows.now (coming c.loop-pair.pairs) (coming c.next.new.self)
          c.in-Some.pair c.loop-pair.any c.in_ok-with_pair.field-0 c.loop-pair.rows c.with_pair.new.rows c.in-Some.ensures inv.0 one c.if-branch.true,
      c.in_ok-with_pair.ensures.row ∙ inv.1,
      c.in_ok-with_pair.ensures.entry ∙ inv.2,
    )

pub with_pairs-loop-pair-preserved : goal.with_pairs-loop-pair-preserved
with_pairs-loop-pair-preserved t c =
    let live = λ (entry : List ℕ). cells_within c.args.prepared.now (patterns_in c.args.patterns.now) (map as_node c.args.nodes.now) c.args.k c.args.matched entry in
    let bind = λ (row : List ℕ). bind_pair c.args.prepared.now c.args.relation.now row in
    let inv = c.loop-pair.invariant in
    let one = subst (λ (entry : List ℕ). ListsPair (live entry) (bind c.args.row.now c.in-Some.pair) c.in_ok-with_pair.field-0 c.loop-pair.rows c.with_pair.new.rows) inv.2
    (subst (λ (row : List ℕ). ListsPair (live c.loop-pair.entry) (bind row c.in-Some.pair) c.in_ok-with_pair.field-0 c.loop-pair.rows c.with_pair.new.rows) inv.1 c.in_ok-with_pair.ensures.listed) in (
      steps_false (live c.args.entry.now) (bind c.args.row.now) (pairs_left c.args.prepared.now.pool c.args.relation.now.rel) c.args.rows.now (coming c.loop-pair.pairs) (coming c.next.new.self)
          c.in-Some.pair c.loop-pair.any c.in_ok-with_pair.field-0 c.loop-pair.rows c.with_pair.new.rows c.in-Some.ensures inv.0 one c.if-branch.false,
      c.in_ok-with_pair.ensures.row ∙ inv.1,
      c.in_ok-with_pair.ensures.entry ∙ inv.2,
    )

pub within-with_pairs-requires : goal.within-with_pairs-requires
within-with_pairs-requires t c =
    let P = CanJoin c.args.prepared.now (length c.args.row.now) in
    let are = c.in-Some.ensures.cases.0 in
    let can = first_pattern P c.args.patterns.now c.in-Some.patterns.now c.in-Some.pattern.now are c.requires.patterns in (
      omega (arith, c.decreases, c.in-Some.ensures.cases.1),
      (
        c.requires.together,
        (
          c.requires.few,
          (
            c.requires.width,
            (
              c.requires.same_width,
              (
                c.requires.narrow,
                (
                  is_ready c.args.prepared.now (length c.args.row.now) c.in-Some.pattern.now.pattern.now c.get-relation.result.now c.requires.together can
                      (subst (λ (i : ℕ). slice_get c.args.prepared.now.entries i ≡ Some c.get-relation.result.now) c.place_of.ensures c.get-relation.ensures),
                  (
                    rest_patterns P c.args.patterns.now c.in-Some.patterns.now c.in-Some.pattern.now are c.requires.patterns,
                    c.requires.nodes,
                  ),
                ),
              ),
            ),
          ),
        ),
      ),
    )
