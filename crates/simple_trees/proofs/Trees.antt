-- The lists of a tree are what the test for simple trees asks for.
use Rattle.std.proofs.Common.{◌≡◌, ◌↔◌, ℕ, ◌-◌, ◌<◌, ◌≤◌, List, length, take, drop, ◌++◌, Some, Option, sym, ◌∙◌, ap, subst, arith, zero-add}
use Rattle.std.specs.Prelude.{All, slice_get, slice_index}
use Rattle.std.specs.Option.{option_map}
use Rattle.std.proofs.Math.Bridge.{le_prop}
use Rattle.std.proofs.Math.Logic.{∥∥₁_elim}
use Rattle.std.proofs.lemmas.List.{length-append, length-map, take-append-drop}
use Rattle.std.proofs.lemmas.List.Concat.{flat_map-append}
use Rattle.std.proofs.lemmas.List.Elements.{Contains-get_or}
use Rattle.alg_model.specs.Pattern.{Algebra}
use Rattle.alg_model.specs.VarSet.{TripleFits}
use Rattle.join_graph.specs.Nodes.{IsSimple, ParentsComeFirst}
use Rattle.minimality_laws.specs.SimpleTree.{AreForests, SharesOne, sets_of}
use Rattle.node_plans.proofs.Limits.{placed_stands}
use Rattle.pattern_tree.specs.PatternTree.{IsPatternTree}
use Rattle.pattern_tree.specs.Tree.{TreeNode, tree_of}
use Rattle.pruning_laws.specs.SceneOf.{number_of}
use Rattle.simple_tree_laws.specs.TreeSets.{parents_of, ends_of, sets_in, AreConnected}
use Rattle.simple_tree_laws.proofs.NodeSets as node_sets
use Rattle.simple_tree_laws.proofs.SimpleTrees.{tree_is_simple, tree_parents_first}

module _ (tree : List TreeNode) (is : ∥ IsPatternTree tree ∥₁) where
  some : 0 < length tree
  some = ∥∥₁_elim is le_prop (λ is. subst (λ tree. 0 < length tree) (sym is.is) (omega arith))

  pub some_node : 0 < length (ends_of tree)
  some_node = let long = node_sets.length-ends 0 tree in omega (arith, long, some)

  pub few_sets : length (sets_in tree) ≤ 256
  few_sets = ∥∥₁_elim is le_prop (λ is. subst (λ tree. length (sets_in tree) ≤ 256) (sym is.is) (let few = is.keeps_limits.few_triples in omega (arith, few, node_sets.all_sets is.pattern)))

  -- so many have the first nodes
  pub few_first : (k : ℕ) → length (sets_in (take k tree)) ≤ 256
  few_first k =
      let both : sets_in tree ≡ sets_in (take k tree) ++ sets_in (drop k tree) = ap sets_in (sym (take-append-drop k tree)) ∙ flat_map-append sets_of (take k tree) (drop k tree) in
      omega (arith, few_sets, ap length both, length-append (sets_in (take k tree)) (sets_in (drop k tree)))

  pub parents_come_first : ParentsComeFirst (parents_of tree)
  parents_come_first k positive low = ∥∥₁_elim is le_prop (λ is. subst (λ tree. ParentsComeFirst (parents_of tree)) (sym is.is) (tree_parents_first is.pattern) k positive low)

  pub last_end : slice_index (ends_of tree) (length (ends_of tree) - 1) ≡ length (sets_in tree)
  last_end = node_sets.last_end 0 tree some ∙ zero-add (length (sets_in tree))

  -- the variables of a node's triple patterns have room in a word
  pub node_fits : (k : ℕ) (node : TreeNode) → slice_get tree k ≡ Some node → All TripleFits node.patterns
  node_fits k node at = λ i d low.
      (placed_stands tree is k _ (record { node = node; stands = at; among = Contains-get_or node.patterns i d low })).fits

pub equally_long : (tree : List TreeNode) → length (parents_of tree) ≡ length (ends_of tree)
equally_long tree = length-map tree (λ (node : TreeNode). number_of node.parent) ∙ sym (node_sets.length-ends 0 tree)

pub simple_is : (tree : List TreeNode) (pattern : Algebra) → tree ≡ tree_of pattern →
    IsSimple (parents_of tree) (ends_of tree) (sets_in tree) ↔ (AreForests tree × AreConnected tree × SharesOne tree)
simple_is tree pattern is =
    subst (λ tree. IsSimple (parents_of tree) (ends_of tree) (sets_in tree) ↔ (AreForests tree × AreConnected tree × SharesOne tree)) (sym is) (tree_is_simple pattern)

pub some_same : {X Y : Type 0} (f : X → Y) (o : Option X) (x : X) (y : Y) → o ≡ Some x → option_map f o ≡ Some y → y ≡ f x
some_same f o x y at is = let both : Some (f x) ≡ Some y = ap (option_map f) (sym at) ∙ is in cc
