-- Sets of variables as words.
use Rattle.std.proofs.Common.{◌≡◌, ◌↔◌, inl, inr, ℕ, ◌<◌, List, length, get_or, bit_and, subst, arith}
use Rattle.std.specs.Int.{bit_at}
use Rattle.std.proofs.lemmas.Bool.{cases_lt}
use Rattle.std.proofs.lemmas.List.{get_or_past}
use Rattle.std.proofs.lemmas.Nat.Bits.{bit_at_and, bit_at-lt, bit_at-zero}
use Rattle.node_plans.specs.NodePlan.{AreSetsOf, HasLowEdges}
use Rattle.pattern_tree.specs.Tree.{TreeNode}
use Rattle.pruning_laws.specs.Plans.{IsEdge}

-- a bit of both words
pub both_bits : (a b v : ℕ) → bit_at (bit_and a b) v ≡ 1 → (bit_at a v ≡ 1) × (bit_at b v ≡ 1)
both_bits a b v is =
    let e = bit_at_and a b v in
    let low = bit_at-lt a v in
    let low' = bit_at-lt b v in
    (omega arith, omega arith)

pub bits_both : (a b v : ℕ) → bit_at a v ≡ 1 → bit_at b v ≡ 1 → bit_at (bit_and a b) v ≡ 1
bits_both a b v one other = let e = bit_at_and a b v in omega arith

module _ (tree : List TreeNode) (k : ℕ) (sets : List ℕ) (are : AreSetsOf tree k sets) where
  -- of the variables that are wanted, those in the set of a triple pattern are those that it has
  pub own_is : HasLowEdges tree k → (n wanted v : ℕ) → bit_at wanted v ≡ 1 → ((v < 64) × (bit_at (bit_and (get_or sets n 0) wanted) v ≡ 1)) ↔ IsEdge tree k n v
  own_is limits n wanted v w = (
    λ h. (are n v).0 (both_bits (get_or sets n 0) wanted v h.1).0,
    λ edge. ((limits n v edge).1, bits_both (get_or sets n 0) wanted v ((are n v).1 edge) w),
  )

  -- a triple pattern that has a variable has its set in the list
  pub inside_sets : (i v : ℕ) → IsEdge tree k i v → i < length sets
  inside_sets i v edge = elim (cases_lt i (length sets)) as (λ _. i < length sets) [
    | inl low ↦ low
    | inr past ↦
        let has : bit_at (get_or sets i 0) v ≡ 1 = (are i v).1 edge in
        let none : bit_at 0 v ≡ 1 = subst (λ set. bit_at set v ≡ 1) (get_or_past sets i 0 past) has in
        let zero = bit_at-zero v in
        absurd (omega arith)
  ]
