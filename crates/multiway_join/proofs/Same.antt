-- A tree and its join order: the same nodes, each with the same triple patterns. They have the same partial solutions,
-- and the same nodes at which a variable occurs.
use Rattle.std.proofs.Common.{◌≡◌, ℕ, zero, suc, ◌++◌, Bool, List, [], ◌∷◌, length, Contains, Some, refl, sym, ◌∙◌, ap, subst}
use Rattle.std.specs.Prelude.{slice_get}
use Rattle.std.proofs.lemmas.List.Sorted.{Contains-permutation, IsPermutation-sym}
use Rattle.alg_model.specs.declared.pattern.TriplePat.{TriplePat}
use Rattle.alg_model.specs.Row.{Row}
use Rattle.alg_model.specs.Pattern.{Bgp, vars_of}
use Rattle.alg_model.specs.Eval.{Interpretation}
use Rattle.pattern_tree.specs.Solution.{Family, IsPartialSolution, IsMaximalRow}
use Rattle.pattern_tree.specs.Standing.{StandsAt, OccursAt, IsWithin, itself, below, IsConnected}
use Rattle.pattern_tree.specs.Tree.{TreeNode, IsRooted, patterns_of}
use Rattle.pattern_tree.proofs.Connected.{occurs_by, by_occurs}
use Rattle.pattern_tree.proofs.RootedSets.{HasSame}
use Rattle.pattern_tree.proofs.Standing.{patterns_of-stands, stands-patterns_of}
use Rattle.multiway_join.specs.JoinOrder.{AreNodeOrders, IsJoinOrder}
use Rattle.multiway_join.proofs.Complete.{HasParentsFirst}
use Rattle.multiway_join.proofs.Nodes.{same_solutions}
use Rattle.multiway_join.proofs.Sound.{TreeVarsBelow, HasRoot}

-- a node of the other tree, with the same parent and no other triple patterns
pub record HasAlike (tree : List TreeNode) (k : ℕ) (node : TreeNode) : Type 0 where
  pub other : TreeNode
  pub stands : slice_get tree k ≡ Some other
  pub parent : node.parent ≡ other.parent
  pub more : (p : TriplePat) → Contains node.patterns p → Contains other.patterns p

-- each node of the first is one of the second
pub record IsInTree (tree other : List TreeNode) : Type 0 where
  pub node : (k : ℕ) (node : TreeNode) → slice_get tree k ≡ Some node → HasAlike other k node

-- both ways
pub record AreAlike (tree other : List TreeNode) : Type 0 where
  pub long : length tree ≡ length other
  pub to : IsInTree tree other
  pub from : IsInTree other tree

-- ---- a join order of a tree is alike

alike_first : (counts : TriplePat → ℕ) (seen : List ℕ) (tree ordered : List TreeNode) → AreNodeOrders counts seen tree ordered → (k : ℕ) (node : TreeNode) → slice_get tree k ≡ Some node → HasAlike ordered k node
alike_first counts seen [] [] are k node is = absurd (cc)
alike_first counts seen [] (first ∷ ordered) are k node is = absurd are
alike_first counts seen (other ∷ nodes) [] are k node is = absurd are
alike_first counts seen (other ∷ nodes) (first ∷ ordered) are zero node is =
    let same : other ≡ node = cc in
    record {
      other = first;
      stands = refl;
      parent = ap (λ node. node.parent) (sym same) ∙ are.0.parent;
      more = λ p at. Contains-permutation other.patterns first.patterns p are.0.patterns (subst (λ node. Contains node.patterns p) (sym same) at);
    }
alike_first counts seen (other ∷ nodes) (first ∷ ordered) are (suc k) node is =
    let rest = alike_first counts (seen ++ vars_of (Bgp first.patterns)) nodes ordered are.1 k node is in
    record { other = rest.other; stands = rest.stands; parent = rest.parent; more = rest.more }

alike_second : (counts : TriplePat → ℕ) (seen : List ℕ) (tree ordered : List TreeNode) → AreNodeOrders counts seen tree ordered → (k : ℕ) (node : TreeNode) → slice_get ordered k ≡ Some node → HasAlike tree k node
alike_second counts seen [] [] are k node is = absurd (cc)
alike_second counts seen [] (first ∷ ordered) are k node is = absurd are
alike_second counts seen (other ∷ nodes) [] are k node is = absurd are
alike_second counts seen (other ∷ nodes) (first ∷ ordered) are zero node is =
    let same : first ≡ node = cc in
    record {
      other = other;
      stands = refl;
      parent = ap (λ node. node.parent) (sym same) ∙ sym are.0.parent;
      more = λ p at. Contains-permutation first.patterns other.patterns p (IsPermutation-sym other.patterns first.patterns are.0.patterns) (subst (λ node. Contains node.patterns p) (sym same) at);
    }
alike_second counts seen (other ∷ nodes) (first ∷ ordered) are (suc k) node is =
    let rest = alike_second counts (seen ++ vars_of (Bgp first.patterns)) nodes ordered are.1 k node is in
    record { other = rest.other; stands = rest.stands; parent = rest.parent; more = rest.more }

same_length : (counts : TriplePat → ℕ) (seen : List ℕ) (tree ordered : List TreeNode) → AreNodeOrders counts seen tree ordered → length tree ≡ length ordered
same_length counts seen [] [] are = refl
same_length counts seen [] (first ∷ ordered) are = absurd are
same_length counts seen (other ∷ nodes) [] are = absurd are
same_length counts seen (other ∷ nodes) (first ∷ ordered) are = ap suc (same_length counts (seen ++ vars_of (Bgp first.patterns)) nodes ordered are.1)

pub order_alike : (counts : TriplePat → ℕ) (tree ordered : List TreeNode) → IsJoinOrder counts tree ordered → AreAlike tree ordered
order_alike counts tree ordered are = record {
  long = same_length counts [] tree ordered are;
  to = record { node = alike_first counts [] tree ordered are };
  from = record { node = alike_second counts [] tree ordered are };
}

pub turned : (tree other : List TreeNode) → AreAlike tree other → AreAlike other tree
turned tree other alike = record { long = sym alike.long; to = alike.from; from = alike.to }

-- ---- what stands and occurs there

module _ (tree other : List TreeNode) (is : IsInTree tree other) where
  pub stands_alike : (k : ℕ) (p : TriplePat) → StandsAt tree k p → StandsAt other k p
  stands_alike k p s = let has = is.node k s.node s.stands in record { node = has.other; stands = has.stands; among = has.more p s.among }

  pub occurs_alike : (k v : ℕ) → OccursAt tree k v → OccursAt other k v
  occurs_alike k v occurs = let by = occurs_by tree k v occurs in by_occurs other k v by.0 (stands_alike k by.0 by.1) by.2

  pub within_alike : (top k : ℕ) → IsWithin tree top k → IsWithin other top k
  within_alike top k itself = itself
  within_alike top k (below {parent = parent} node stands has rest) =
      let alike = is.node k node stands in
      below alike.other alike.stands (sym alike.parent ∙ has) (within_alike top parent rest)

  pub patterns_alike : (set : ℕ → Bool) (p : TriplePat) → Contains (patterns_of tree set) p → Contains (patterns_of other set) p
  patterns_alike set p at = let s = patterns_of-stands tree set p at in stands-patterns_of other set s.0 p (stands_alike s.0 p s.1) s.2

module _ (tree other : List TreeNode) (alike : AreAlike tree other) where
  pub connected_alike : IsConnected tree → IsConnected other
  connected_alike connected = record {
    up = λ k parent j var node place has occurs occurs' apart.
        let back = alike.from.node k node place in
        occurs_alike tree other alike.to parent var (connected.up k parent j var back.other back.stands (sym back.parent ∙ has)
        (occurs_alike other tree alike.from k var occurs) (occurs_alike other tree alike.from j var occurs') (λ within. apart (within_alike tree other alike.to k j within)));
  }

  pub below_alike : (n : ℕ) → TreeVarsBelow n tree → TreeVarsBelow n other
  below_alike n few k p var s at = few k p var (stands_alike other tree alike.from k p s) at

  pub root_alike : HasRoot tree → HasRoot other
  root_alike has = record { none = λ node place. let back = alike.from.node 0 node place in back.parent ∙ has.none back.other back.stands }

  pub parents_alike : HasParentsFirst tree → HasParentsFirst other
  parents_alike first = record {
    before = λ k node positive place.
        let back = alike.from.node k node place in
        let up = first.before k back.other positive back.stands in
        (up.0, back.parent ∙ up.1, up.2);
  }

  pub rooted_alike : (set : ℕ → Bool) → IsRooted tree set → IsRooted other set
  rooted_alike set rooted = record {
    root = rooted.root;
    parents = λ k parent node place has held. let back = alike.from.node k node place in rooted.parents k parent back.other back.stands (sym back.parent ∙ has) held;
  }

  pub solved_alike : {V X : Type 0} (interpretation : Interpretation V X) (n : ℕ) (family : Family X) (set : ℕ → Bool) (row : Row V) → IsPartialSolution interpretation n tree family set row → IsPartialSolution interpretation n other family set row
  solved_alike interpretation n family set row solved =
      let same : HasSame (patterns_of tree set) (patterns_of other set) = record { to = patterns_alike tree other alike.to set; from = patterns_alike other tree alike.from set } in
      record { rooted = rooted_alike set solved.rooted; solves = same_solutions interpretation n family (patterns_of tree set) (patterns_of other set) row same solved.solves }

pub maximal_alike : {V X : Type 0} (interpretation : Interpretation V X) (n : ℕ) (family : Family X) (tree other : List TreeNode) → AreAlike tree other → (row : Row V) → IsMaximalRow interpretation n tree family row → IsMaximalRow interpretation n other family row
maximal_alike interpretation n family tree other alike row is = record {
  partial = (is.partial.0, solved_alike tree other alike interpretation n family is.partial.0 row is.partial.1);
  maximal = λ longer partial. is.maximal longer (partial.0, solved_alike other tree (turned tree other alike) interpretation n family partial.0 longer partial.1);
}
