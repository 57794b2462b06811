-- Nodes of trees by number: those of two lists in a row, the parents, and the triple patterns of a set.
use Rattle.std.proofs.Common.{◌≡◌, ◌⊎◌, ℕ, zero, suc, ◌+◌, ◌-◌, ◌<◌, ◌≤◌, ◌++◌, inl, inr, Bool, true, false, if◌then◌else◌, List, [], ◌∷◌, length, map, Some, None, refl, sym, ◌∙◌, ap, subst, arith, lt-ltb, le-ltb, append_assoc}
use Rattle.std.specs.Prelude.{nat_lt, slice_get}
use Rattle.std.proofs.lemmas.Bool.{cond-true, cond-false}
use Rattle.alg_model.specs.Pattern.{Algebra, Bgp, Join, LeftJoin}
use Rattle.pattern_tree.specs.Tree.{TreeNode, root_patterns, moved_parent, moved_option, moved, hung_parent, hung, nodes_below, tree_of, patterns_of}

-- ---- lists by place

-- what stands in the first of two lists stands in both
pub at_front : {X : Type 0} (xs ys : List X) (k : ℕ) (x : X) → slice_get xs k ≡ Some x → slice_get (xs ++ ys) k ≡ Some x
at_front [] ys k x is = cc
at_front (y ∷ xs) ys zero x is = is
at_front (y ∷ xs) ys (suc k) x is = at_front xs ys k x is

-- and what stands in the second, after the first
pub at_back : {X : Type 0} (xs ys : List X) (k : ℕ) → slice_get (xs ++ ys) (k + length xs) ≡ slice_get ys k
at_back {X} [] ys k = ap (slice_get ys) (let e : k + length {A = X} [] ≡ k = omega arith in e)
at_back (y ∷ xs) ys k =
    let e : k + length (y ∷ xs) ≡ suc (k + length xs) = omega arith in
    ap (slice_get (y ∷ (xs ++ ys))) e ∙ at_back xs ys k

-- what stands in two lists in a row stands in one of them
pub at_either : {X : Type 0} (xs ys : List X) (k : ℕ) (x : X) → slice_get (xs ++ ys) k ≡ Some x → ((k < length xs) × (slice_get xs k ≡ Some x)) ⊎ ((j : ℕ) × (k ≡ j + length xs) × (slice_get ys j ≡ Some x))
at_either [] ys k x is = inr (k, omega arith, is)
at_either (y ∷ xs) ys zero x is = inl (omega arith, is)
at_either {X} (y ∷ xs) ys (suc k) x is = elim (at_either xs ys k x is) as (λ _. ((suc k < length (y ∷ xs)) × (slice_get xs k ≡ Some x)) ⊎ ((j : ℕ) × (suc k ≡ j + length (y ∷ xs)) × (slice_get ys j ≡ Some x))) [
  | inl front ↦ inl ((let low = front.0 in omega arith), front.1)
  | inr back ↦ inr (back.0, (let e = back.1 in omega arith), back.2)
]

-- what stands in a list stands there of what f gives
pub at_map : {X Y : Type 0} (f : X → Y) (xs : List X) (k : ℕ) (x : X) → slice_get xs k ≡ Some x → slice_get (map f xs) k ≡ Some (f x)
at_map f [] k x is = cc
at_map f (y ∷ xs) zero x is = let e : y ≡ x = cc in ap (λ z. Some (f z)) e
at_map f (y ∷ xs) (suc k) x is = at_map f xs k x is

-- and what f gives comes from an item there
pub from_map : {X Y : Type 0} (f : X → Y) (xs : List X) (k : ℕ) (y : Y) → slice_get (map f xs) k ≡ Some y → (x : X) × (slice_get xs k ≡ Some x) × (f x ≡ y)
from_map f [] k y is = cc
from_map f (x ∷ xs) zero y is = (x, refl, cc)
from_map f (x ∷ xs) (suc k) y is = from_map f xs k y is

-- ---- parents

-- the parent of a node below the root stands before it; k counts the nodes below the root
pub record HasParent (node : TreeNode) (k : ℕ) : Type 0 where
  pub parent : ℕ
  pub is : node.parent ≡ Some parent
  pub low : parent ≤ k

moved-low : (d p j : ℕ) → p ≤ j → moved_parent d p ≤ j + d
moved-low d zero j low = omega arith
moved-low d (suc p) j low = omega arith

moved-HasParent : (d j : ℕ) (node : TreeNode) → HasParent node j → HasParent (moved d node) (j + d)
moved-HasParent d j node h = record { parent = moved_parent d h.parent; is = ap (moved_option d) h.is; low = moved-low d h.parent j h.low }

hung-HasParent : (d j : ℕ) (node : TreeNode) → HasParent node j → HasParent (hung d node) (suc j + d)
hung-HasParent d j node h = record { parent = suc (h.parent + d); is = ap (λ parent. Some (hung_parent d parent)) h.is; low = let low = h.low in omega arith }

-- each node below the root has one
pub below-HasParent : (pattern : Algebra) (k : ℕ) (node : TreeNode) → slice_get (nodes_below pattern) k ≡ Some node → HasParent node k
below-HasParent (Bgp list) k node is = cc
below-HasParent (Join left right) k node is =
    let d = length (nodes_below left) in
    elim (at_either (nodes_below left) (map (moved d) (nodes_below right)) k node is) as (λ _. HasParent node k) [
      | inl front ↦ below-HasParent left k node front.1
      | inr back ↦
          let from = from_map (moved d) (nodes_below right) back.0 node back.2 in
          let there = moved-HasParent d back.0 from.0 (below-HasParent right back.0 from.0 from.1) in
          subst (λ k. HasParent node k) (sym back.1) (subst (λ node. HasParent node (back.0 + d)) from.2 there)
    ]
below-HasParent (LeftJoin left right) k node is =
    let d = length (nodes_below left) in
    elim (at_either (nodes_below left) (map (hung d) (tree_of right)) k node is) as (λ _. HasParent node k) [
      | inl front ↦ below-HasParent left k node front.1
      | inr back ↦
          let from = from_map (hung d) (tree_of right) back.0 node back.2 in
          subst (λ k. HasParent node k) (sym back.1) (subst (λ node. HasParent node (back.0 + d)) from.2 (hung_there d right back.0 from.0 from.1 (λ j below. below-HasParent right j from.0 below)))
    ] where
      hung_there : (d : ℕ) (right : Algebra) (j : ℕ) (node : TreeNode) → slice_get (tree_of right) j ≡ Some node → ((i : ℕ) → slice_get (nodes_below right) i ≡ Some node → HasParent node i) → HasParent (hung d node) (j + d)
      hung_there d right zero node is below =
          let root : record { parent = None; patterns = root_patterns right } ≡ node = cc in
          subst (λ node. HasParent (hung d node) (0 + d)) root (record { parent = 0; is = refl; low = omega arith })
      hung_there d right (suc j) node is below = hung-HasParent d j node (below j is)

-- ---- the triple patterns of a set

-- sets with the same nodes have the same triple patterns
pub patterns_of-same : (nodes : List TreeNode) (s t : ℕ → Bool) → ((k : ℕ) → k < length nodes → s k ≡ t k) → patterns_of nodes s ≡ patterns_of nodes t
patterns_of-same [] s t same = refl
patterns_of-same (node ∷ nodes) s t same =
    let rest = patterns_of-same nodes (λ k. s (suc k)) (λ k. t (suc k)) (λ k low. same (suc k) (omega arith)) in
    ap (λ b. (if b then node.patterns else []) ++ patterns_of nodes (λ k. s (suc k))) (same 0 (omega arith)) ∙ ap (λ list. (if t 0 then node.patterns else []) ++ list) rest

-- a set without nodes has none
pub patterns_of-none : (nodes : List TreeNode) (s : ℕ → Bool) → ((k : ℕ) → k < length nodes → s k ≡ false) → patterns_of nodes s ≡ []
patterns_of-none [] s none = refl
patterns_of-none (node ∷ nodes) s none =
    ap (λ b. (if b then node.patterns else []) ++ patterns_of nodes (λ k. s (suc k))) (none 0 (omega arith)) ∙ patterns_of-none nodes (λ k. s (suc k)) (λ k low. none (suc k) (omega arith))

-- those of two lists of nodes
pub patterns_of-append : (xs ys : List TreeNode) (s : ℕ → Bool) → patterns_of (xs ++ ys) s ≡ patterns_of xs s ++ patterns_of ys (λ k. s (k + length xs))
patterns_of-append [] ys s = patterns_of-same ys s (λ k. s (k + length {A = TreeNode} [])) (λ k _. ap s (let e : k ≡ k + length {A = TreeNode} [] = omega arith in e))
patterns_of-append (x ∷ xs) ys s =
    let mine = if s 0 then x.patterns else [] in
    let front = patterns_of xs (λ k. s (suc k)) in
    let rest = patterns_of-append xs ys (λ k. s (suc k)) in
    let back = patterns_of-same ys (λ k. s (suc (k + length xs))) (λ k. s (k + length (x ∷ xs))) (λ k _. ap s (let e : suc (k + length xs) ≡ k + length (x ∷ xs) = omega arith in e)) in
    ap (λ list. mine ++ list) rest ∙ sym (append_assoc mine front (patterns_of ys (λ k. s (suc (k + length xs))))) ∙ ap (λ list. (mine ++ front) ++ list) back

-- those of nodes that are moved, and that are hung
pub patterns_of-moved : (d : ℕ) (nodes : List TreeNode) (s : ℕ → Bool) → patterns_of (map (moved d) nodes) s ≡ patterns_of nodes s
patterns_of-moved d [] s = refl
patterns_of-moved d (node ∷ nodes) s = ap (λ list. (if s 0 then node.patterns else []) ++ list) (patterns_of-moved d nodes (λ k. s (suc k)))

pub patterns_of-hung : (d : ℕ) (nodes : List TreeNode) (s : ℕ → Bool) → patterns_of (map (hung d) nodes) s ≡ patterns_of nodes s
patterns_of-hung d [] s = refl
patterns_of-hung d (node ∷ nodes) s = ap (λ list. (if s 0 then node.patterns else []) ++ list) (patterns_of-hung d nodes (λ k. s (suc k)))

-- ---- two sets as one

-- the one set for the root and the d nodes after it, and the other for those that follow
abbrev pub mixed : ℕ → (ℕ → Bool) → (ℕ → Bool) → ℕ → Bool
mixed d first second k = if nat_lt d k then second (k - suc d) else first k

pub mixed-front : (d : ℕ) (first second : ℕ → Bool) (k : ℕ) → k ≤ d → mixed d first second k ≡ first k
mixed-front d first second k low = cond-false (nat_lt d k) (second (k - suc d)) (first k) (le-ltb d k low)

pub mixed-back : (d : ℕ) (first second : ℕ → Bool) (j : ℕ) → mixed d first second (suc (j + d)) ≡ second j
mixed-back d first second j =
    let past : nat_lt d (suc (j + d)) ≡ true = lt-ltb d (suc (j + d)) (omega arith) in
    let place : suc (j + d) - suc d ≡ j = omega arith in
    cond-true (nat_lt d (suc (j + d))) (second (suc (j + d) - suc d)) (first (suc (j + d))) past ∙ ap second place
