-- The flat rows of the tree of a pattern, in join order.
use Rattle.std.proofs.Common.{◌≡◌, ℕ, zero, suc, ◌<◌, ◌++◌, inl, inr, List, length, Contains, Some, None, sym, ap, arith}
use Rattle.std.specs.Prelude.{slice_get}
use Rattle.std.proofs.lemmas.List.Elements.{All-contains, Contains-append_left, Contains-append_right, Contains-append_cases}
use Rattle.alg_model.specs.declared.pattern.TriplePat.{TriplePat}
use Rattle.alg_model.specs.Row.{Row}
use Rattle.alg_model.specs.Pattern.{Algebra, Bgp, Join, LeftJoin, HasVarsBelow, triple_vars, triple_patterns, vars_of}
use Rattle.alg_model.specs.Eval.{Interpretation}
use Rattle.alg_model.specs.Solution.{TellsValues}
use Rattle.alg_model.proofs.Lists.{Contains-flat_map}
use Rattle.alg_model.specs.WellDesigned.{IsWellDesigned}
use Rattle.pattern_tree.specs.Solution.{Family, IsPartialRow, IsMaximalRow}
use Rattle.pattern_tree.specs.Tree.{TreeNode, root_patterns, tree_of}
use Rattle.pattern_tree.proofs.Connected.{tree-connected}
use Rattle.pattern_tree.proofs.Nodes.{below-HasParent}
use Rattle.pattern_tree.proofs.Standing.{stands-listed}
use Rattle.multiway_join.specs.FlatRows.{flat_rows_of}
use Rattle.multiway_join.specs.JoinOrder.{IsJoinOrder}
use Rattle.multiway_join.proofs.Complete.{HasParentsFirst, flat_complete}
use Rattle.multiway_join.proofs.Same.{AreAlike, order_alike, turned, connected_alike, below_alike, root_alike, parents_alike, solved_alike, maximal_alike}
use Rattle.multiway_join.proofs.Sound.{TreeVarsBelow, HasRoot, flat_sound}

-- the variables of a triple pattern are of the pattern
pub listed_vars : (pattern : Algebra) (p : TriplePat) (v : ℕ) → Contains (triple_patterns pattern) p → Contains (triple_vars p) v → Contains (vars_of pattern) v
listed_vars (Bgp list) p v at has = Contains-flat_map triple_vars list p v at has
listed_vars (Join left right) p v at has = elim (Contains-append_cases (triple_patterns left) (triple_patterns right) p at) as (λ _. Contains (vars_of left ++ vars_of right) v) [
  | inl there ↦ Contains-append_left (vars_of left) (vars_of right) v (listed_vars left p v there has)
  | inr there ↦ Contains-append_right (vars_of left) (vars_of right) v (listed_vars right p v there has)
]
listed_vars (LeftJoin left right) p v at has = elim (Contains-append_cases (triple_patterns left) (triple_patterns right) p at) as (λ _. Contains (vars_of left ++ vars_of right) v) [
  | inl there ↦ Contains-append_left (vars_of left) (vars_of right) v (listed_vars left p v there has)
  | inr there ↦ Contains-append_right (vars_of left) (vars_of right) v (listed_vars right p v there has)
]

pub tree_below : (n : ℕ) (pattern : Algebra) → HasVarsBelow n pattern → TreeVarsBelow n (tree_of pattern)
tree_below n pattern few k p var s at = All-contains (λ var. var < n) (vars_of pattern) var few (listed_vars pattern p var (stands-listed pattern k p s) at)

pub tree_root : (pattern : Algebra) → HasRoot (tree_of pattern)
tree_root pattern = record { none = λ node place. (let same : record { parent = None; patterns = root_patterns pattern } ≡ node = cc in ap (λ node. node.parent) (sym same)) }

pub tree_parents : (pattern : Algebra) → HasParentsFirst (tree_of pattern)
tree_parents pattern = record { before = each } where
  each : (k : ℕ) (node : TreeNode) → 0 < k → slice_get (tree_of pattern) k ≡ Some node → (parent : ℕ) × (node.parent ≡ Some parent) × (parent < k)
  each zero node positive place = absurd (omega (arith, positive))
  each (suc k) node positive place = let up = below-HasParent pattern k node place in (up.parent, up.is, (let low = up.low in omega (arith, low)))

module _ {V X : Type 0} (interpretation : Interpretation V X) (tells : TellsValues interpretation) (n : ℕ) (family : Family X) (counts : TriplePat → ℕ) (pattern : Algebra) (ordered : List TreeNode) (few : HasVarsBelow n pattern)
    (order : IsJoinOrder counts (tree_of pattern) ordered) where
  abbrev alike : AreAlike (tree_of pattern) ordered
  alike = order_alike counts (tree_of pattern) ordered order

  pub each_is_partial : (row : Row V) → Contains (flat_rows_of interpretation n family ordered) row → IsPartialRow interpretation n (tree_of pattern) family row
  each_is_partial row at =
      let is = flat_sound interpretation tells n family ordered (below_alike (tree_of pattern) ordered alike n (tree_below n pattern few)) (root_alike (tree_of pattern) ordered alike (tree_root pattern)) row at in
      (is.0, solved_alike ordered (tree_of pattern) (turned (tree_of pattern) ordered alike) interpretation n family is.0 row is.1)

  pub each_maximal_comes : IsWellDesigned pattern → (row : Row V) → IsMaximalRow interpretation n (tree_of pattern) family row → Contains (flat_rows_of interpretation n family ordered) row
  each_maximal_comes well row is =
      let some : 0 < length ordered = (let long = alike.long in omega (arith, long)) in
      flat_complete interpretation tells n family ordered (below_alike (tree_of pattern) ordered alike n (tree_below n pattern few)) (connected_alike (tree_of pattern) ordered alike (tree-connected pattern well))
      (root_alike (tree_of pattern) ordered alike (tree_root pattern)) (parents_alike (tree_of pattern) ordered alike (tree_parents pattern)) some row (maximal_alike interpretation n family (tree_of pattern) ordered alike row is)
