use Rattle.std.proofs.Common.{arith, ◌∙◌, length, sym, zero-add}
use Rattle.std.proofs.lemmas.List.{length-map}
use Rattle.pattern_tree.specs.Tree.{TreeNode, tree_of}
use Rattle.pruning_laws.specs.SceneOf.{number_of}
use Rattle.simple_tree_laws.specs.TreeSets.{sets_in}
use Rattle.simple_tree_laws.proofs.NodeSets.{length-ends, last_end, ends_rise, all_sets}
use Rattle.simple_tree_laws.proofs.SimpleTrees.{tree_is_simple, tree_parents_first}
use Rattle.simple_tree_laws.proofs.laws.simple_tree_law.Goals as goal

pub returns-clause-simple : goal.returns-clause-simple
returns-clause-simple c = λ pattern. tree_is_simple pattern

pub returns-clause-some_node : goal.returns-clause-some_node
returns-clause-some_node c = λ pattern. let long = length-ends 0 (tree_of pattern) in omega (arith, long)

pub returns-clause-few_sets : goal.returns-clause-few_sets
returns-clause-few_sets c = λ n pattern keeps. let few = keeps.few_triples in omega (arith, few, all_sets pattern)

pub returns-clause-equally_long : goal.returns-clause-equally_long
returns-clause-equally_long c = λ pattern. length-map (tree_of pattern) (λ (node : TreeNode). number_of node.parent) ∙ sym (length-ends 0 (tree_of pattern))

pub returns-clause-parents_come_first : goal.returns-clause-parents_come_first
returns-clause-parents_come_first c = λ pattern. tree_parents_first pattern

pub returns-clause-ends_rise : goal.returns-clause-ends_rise
returns-clause-ends_rise c = λ pattern. ends_rise 0 (tree_of pattern)

pub returns-clause-last_end : goal.returns-clause-last_end
returns-clause-last_end c = λ pattern. last_end 0 (tree_of pattern) (omega arith) ∙ zero-add (length (sets_in (tree_of pattern)))
