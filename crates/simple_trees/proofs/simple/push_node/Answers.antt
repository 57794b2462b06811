use Rattle.std.proofs.Common.{◌≡◌, ◌++◌, ◌+◌, List, length, map, take, All, refl, sym, ap, ◌∙◌, subst, arith}
use Rattle.std.specs.Prelude.{slice_get}
use Rattle.alg_model.specs.declared.pattern.TriplePat.{TriplePat}
use Rattle.alg_model.specs.VarSet.{TripleFits, triple_set}
use Rattle.minimality_laws.specs.SimpleTree.{sets_of}
use Rattle.pattern_tree.specs.Tree.{TreeNode}
use Rattle.pattern_tree.proofs.Connected.{node_there}
use Rattle.pruning_laws.specs.SceneOf.{number_of}
use Rattle.simple_tree_laws.specs.TreeSets.{sets_in}
use Rattle.simple_trees.proofs.Listing.{lists-push}
use Rattle.simple_trees.proofs.Trees.{few_first, node_fits, some_same}
use Rattle.simple_trees.proofs.simple.push_node.Goals as goal

pub push_sets-requires : goal.push_sets-requires
push_sets-requires c =
    let node = node_there c.args.tree.now c.args.node c.requires.exists in
    let patterns = some_same (λ (node : TreeNode). node.patterns) (slice_get c.args.tree.now c.args.node) node.0 c.patterns.result node.1 c.patterns.ensures in
    subst (All TripleFits) (sym patterns) (node_fits c.args.tree.now c.requires.pattern c.args.node node.0 node.1)

-- all sets so far are those of the first nodes
pub overflow_cast-len : goal.overflow_cast-len
overflow_cast-len c =
    let tree = c.args.tree.now in
    let node = node_there tree c.args.node c.requires.exists in
    let patterns = some_same (λ (node : TreeNode). node.patterns) (slice_get tree c.args.node) node.0 c.patterns.result node.1 c.patterns.ensures in
    let pushed = lists-push tree c.args.node node.0 c.args.lists.now.parents.items c.args.lists.now.ends.items c.args.lists.now.sets.items (number_of node.0.parent) _ node.1 c.requires.before refl refl in
    let sets : c.push_sets.new.into.items ≡ sets_in (take (c.args.node + 1) tree) = c.in_ok-push_sets.ensures ∙ ap (λ (ps : List TriplePat). c.args.lists.now.sets.items ++ map triple_set ps) patterns ∙ pushed.are_sets in
    let few = few_first tree c.requires.pattern (c.args.node + 1) in
    omega (arith, c.len.ensures, ap length sets, few)

pub returns : goal.returns
returns c =
    let tree = c.args.tree.now in
    let node = node_there tree c.args.node c.requires.exists in
    let patterns = some_same (λ (node : TreeNode). node.patterns) (slice_get tree c.args.node) node.0 c.patterns.result node.1 c.patterns.ensures in
    let parent = some_same (λ (node : TreeNode). node.parent) (slice_get tree c.args.node) node.0 c.parent.result node.1 c.parent.ensures in
    let sets : c.push_sets.new.into.items ≡ c.args.lists.now.sets.items ++ sets_of node.0 = c.in_ok-push_sets.ensures ∙ ap (λ (ps : List TriplePat). c.args.lists.now.sets.items ++ map triple_set ps) patterns in
    let long : c.len.result ≡ length (c.args.lists.now.sets.items ++ sets_of node.0) = omega (arith, c.len.ensures, ap length sets) in
    let pushed = lists-push tree c.args.node node.0 c.args.lists.now.parents.items c.args.lists.now.ends.items c.args.lists.now.sets.items c.number_of.result c.len.result node.1 c.requires.before
    (c.number_of.ensures ∙ ap number_of parent) long in
    record {
      are_parents = c.in_ok-push.ensures.items ∙ pushed.are_parents;
      are_ends = c.in_ok-push-2.ensures.items ∙ pushed.are_ends;
      are_sets = sets ∙ pushed.are_sets;
    }
