use Rattle.std.proofs.Common.{◌≡◌, ◌↔◌, ℕ, ◌-◌, ◌<◌, ◌≤◌, List, length, IsTrue, sym, ap, ◌∙◌, subst}
use Rattle.std.specs.Prelude.{slice_index}
use Rattle.std.specs.List.Sorted.{IsNonDecreasing}
use Rattle.join_graph.specs.Nodes.{IsSimple, ParentsComeFirst}
use Rattle.simple_tree_laws.specs.TreeSets.{parents_of, ends_of, sets_in}
use Rattle.simple_tree_laws.proofs.NodeSets as node_sets
use Rattle.simple_trees.proofs.Trees.{some_node, few_sets, equally_long, parents_come_first, last_end, simple_is}
use Rattle.simple_trees.proofs.simple.is_simple_tree.Goals as goal

pub is_simple-requires-clause-some_node : goal.is_simple-requires-clause-some_node
is_simple-requires-clause-some_node c =
    let ends : c.deref-2.result.now ≡ ends_of c.args.tree.now = c.deref-2.ensures.value ∙ c.in_ok-lists.ensures.are_ends in
    subst (λ (ends : List ℕ). 0 < length ends) (sym ends) (some_node c.args.tree.now c.nodes.ensures.pattern)

pub is_simple-requires-clause-few_sets : goal.is_simple-requires-clause-few_sets
is_simple-requires-clause-few_sets c =
    let sets : c.deref-3.result.now ≡ sets_in c.args.tree.now = c.deref-3.ensures.value ∙ c.in_ok-lists.ensures.are_sets in
    subst (λ (sets : List ℕ). length sets ≤ 256) (sym sets) (few_sets c.args.tree.now c.nodes.ensures.pattern)

pub is_simple-requires-clause-equally_long : goal.is_simple-requires-clause-equally_long
is_simple-requires-clause-equally_long c =
    let parents : c.deref.result.now ≡ parents_of c.args.tree.now = c.deref.ensures.value ∙ c.in_ok-lists.ensures.are_parents in
    let ends : c.deref-2.result.now ≡ ends_of c.args.tree.now = c.deref-2.ensures.value ∙ c.in_ok-lists.ensures.are_ends in
    ap length parents ∙ equally_long c.args.tree.now ∙ ap length (sym ends)

pub is_simple-requires-clause-parents_come_first : goal.is_simple-requires-clause-parents_come_first
is_simple-requires-clause-parents_come_first c =
    let parents : c.deref.result.now ≡ parents_of c.args.tree.now = c.deref.ensures.value ∙ c.in_ok-lists.ensures.are_parents in
    subst ParentsComeFirst (sym parents) (parents_come_first c.args.tree.now c.nodes.ensures.pattern)

pub is_simple-requires-clause-ends_rise : goal.is_simple-requires-clause-ends_rise
is_simple-requires-clause-ends_rise c =
    let ends : c.deref-2.result.now ≡ ends_of c.args.tree.now = c.deref-2.ensures.value ∙ c.in_ok-lists.ensures.are_ends in
    subst IsNonDecreasing (sym ends) (node_sets.ends_rise 0 c.args.tree.now)

pub is_simple-requires-clause-last_end : goal.is_simple-requires-clause-last_end
is_simple-requires-clause-last_end c =
    let ends : c.deref-2.result.now ≡ ends_of c.args.tree.now = c.deref-2.ensures.value ∙ c.in_ok-lists.ensures.are_ends in
    let sets : c.deref-3.result.now ≡ sets_in c.args.tree.now = c.deref-3.ensures.value ∙ c.in_ok-lists.ensures.are_sets in
    subst (λ (ends : List ℕ). slice_index ends (length ends - 1) ≡ length c.deref-3.result.now) (sym ends) (last_end c.args.tree.now c.nodes.ensures.pattern ∙ ap length (sym sets))

pub returns : goal.returns
returns c = record {
  simple = λ pattern is.
      let parents : c.deref.result.now ≡ parents_of c.args.tree.now = c.deref.ensures.value ∙ c.in_ok-lists.ensures.are_parents in
      let ends : c.deref-2.result.now ≡ ends_of c.args.tree.now = c.deref-2.ensures.value ∙ c.in_ok-lists.ensures.are_ends in
      let sets : c.deref-3.result.now ≡ sets_in c.args.tree.now = c.deref-3.ensures.value ∙ c.in_ok-lists.ensures.are_sets in
      let same : IsSimple c.deref.result.now c.deref-2.result.now c.deref-3.result.now ≡ IsSimple (parents_of c.args.tree.now) (ends_of c.args.tree.now) (sets_in c.args.tree.now) =
      λ i. IsSimple (parents i) (ends i) (sets i) in
      let told : IsTrue c.is_simple.result ↔ IsSimple (parents_of c.args.tree.now) (ends_of c.args.tree.now) (sets_in c.args.tree.now) =
      subst (λ (T : Type 0). IsTrue c.is_simple.result ↔ T) same c.is_simple.ensures in
      let law = simple_is c.args.tree.now pattern is in
      (λ yes. law.0 (told.0 yes), λ simple. told.1 (law.1 simple));
}
