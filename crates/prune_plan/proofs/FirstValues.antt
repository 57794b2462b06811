-- The values with which the variables of a node begin.
use Rattle.std.proofs.Common.{◌≡◌, ◌↔◌, inl, inr, ℕ, List, Option, Some, None, sym, subst}
use Rattle.std.specs.Int.{bit_at}
use Rattle.std.specs.Prelude.{slice_get}
use Rattle.alg_model.specs.Pattern.{Bgp, triple_vars, vars_of}
use Rattle.alg_model.specs.VarSet.{HoldsJust}
use Rattle.alg_model.proofs.Lists.{Contains-flat_map}
use Rattle.pattern_tree.specs.Tree.{TreeNode}
use Rattle.pruning_laws.specs.Plans.{IsEdge}
use Rattle.tree_relations.specs.declared.prepared.PlaceKind.{PlaceKind}
use Rattle.tree_relations.specs.declared.prepared.Prepared.{Prepared}
use Rattle.mask_steps.specs.Held.{kind_in, HasValue, HasValueOf, OccursAt}
use Rattle.prune_plan.specs.steps.Nodes.{IsParent, IsFirstValue, IsLevel, IsReducedOnce}
use Rattle.prune_plan.proofs.Places.{one_parent}

-- a variable without a kind holds all values
pub all_values : (p : Prepared) (kinds : List (Option PlaceKind)) (v x : ℕ) → kind_in kinds v ≡ None → HasValue p kinds v x
all_values p kinds v x none = subst (λ kind. HasValueOf p kind v x) (sym none) tt

-- a variable that a triple pattern of the node has is in the node's set
pub in_vars : (tree : List TreeNode) (k set : ℕ) → ((at : TreeNode) → slice_get tree k ≡ Some at → HoldsJust set (vars_of (Bgp at.patterns))) → (i v : ℕ) → IsEdge tree k i v → bit_at set v ≡ 1
in_vars tree k set holds i v edge =
    let s = edge.stands in
    (holds s.node s.stands v).1 (Contains-flat_map triple_vars s.node.patterns edge.pattern v s.among edge.has)

module _ (tree : List TreeNode) (p : Prepared) (k : ℕ) where
  pub first_of_parent : (parent : ℕ) → IsParent tree k parent → {held begins : Type 0} (v x : ℕ) → held ↔ (begins × ((i : ℕ) → IsEdge tree parent i v → OccursAt p i v x)) → begins → held ↔ IsFirstValue tree p k v x
  first_of_parent parent hangs v x is all = (
    λ h other i hangs' edge. (is.0 h).1 i (subst (λ k. IsEdge tree k i v) (one_parent tree k other parent hangs' hangs) edge),
    λ first. is.1 (all, λ i edge. first parent i hangs edge),
  )

  pub first_of_root : ((parent : ℕ) → IsParent tree k parent → ⊥) → {held : Type 0} (v x : ℕ) → held → held ↔ IsFirstValue tree p k v x
  first_of_root root v x h = (λ _ parent i hangs edge. absurd (root parent hangs), λ first. h)

  -- where all triple patterns of the parent have the same values, one of them is enough
  pub first_of_level : (parent : ℕ) → IsParent tree k parent → IsLevel tree p parent → (start kinds : List (Option PlaceKind)) (new : Prepared) (v x : ℕ) → IsReducedOnce tree parent p start new kinds v → HasValue p start v x →
      HasValue new kinds v x ↔ IsFirstValue tree p k v x
  first_of_level parent hangs level start kinds new v x once all = elim once as (λ _. HasValue new kinds v x ↔ IsFirstValue tree p k v x) [
    | inl none ↦ (
      λ h other i hangs' edge. absurd (none.0 i (subst (λ k. IsEdge tree k i v) (one_parent tree k other parent hangs' hangs) edge)),
      λ first. (none.1 x).1 all,
    )
    | inr one ↦ (
      λ h other j hangs' edge. level one.0 j v x one.1 (subst (λ k. IsEdge tree k j v) (one_parent tree k other parent hangs' hangs) edge) ((one.2 x).0 h).1,
      λ first. (one.2 x).1 (all, first parent one.0 hangs one.1),
    )
  ]
