-- Where the triple patterns of a tree stand, part by part, and those of a set of its nodes.
use Rattle.std.proofs.Common.{◌≡◌, ◌⊎◌, ℕ, zero, suc, ◌+◌, ◌++◌, inl, inr, Bool, true, false, if◌then◌else◌, List, [], ◌∷◌, length, map, Some, None, Contains, IsTrue, refl, sym, subst, arith}
use Rattle.std.proofs.lemmas.List.Elements.{Contains-append_left, Contains-append_right, Contains-append_cases}
use Rattle.bm_term.proofs.Elements.{Contains-nil}
use Rattle.alg_model.specs.declared.pattern.TriplePat.{TriplePat}
use Rattle.alg_model.specs.Pattern.{Algebra, Bgp, Join, LeftJoin, triple_patterns}
use Rattle.pattern_tree.specs.Standing.{StandsAt, IsWithin, itself, below}
use Rattle.pattern_tree.specs.Tree.{TreeNode, root_patterns, moved_parent, moved, hung, nodes_below, tree_of, IsRooted, patterns_of}
use Rattle.pattern_tree.proofs.Nodes.{at_either, from_map}

-- ---- part by part

-- what stands at the root
at_root : (patterns : List TriplePat) (node : TreeNode) (p : TriplePat) → Some (record { parent = None; patterns = patterns }) ≡ Some node → Contains node.patterns p → Contains patterns p
at_root patterns node p is at =
    let root : record { parent = None; patterns = patterns } ≡ node = cc in
    subst (λ node. Contains node.patterns p) (sym root) at

pub root_stands : (pattern : Algebra) (p : TriplePat) → Contains (root_patterns pattern) p → StandsAt (tree_of pattern) 0 p
root_stands pattern p at = record { node = record { parent = None; patterns = root_patterns pattern }; stands = refl; among = at }

-- a triple pattern of a Join stands in the left side, or in the right side at a node that is moved
pub stands-joined : (left right : Algebra) (k : ℕ) (p : TriplePat) → StandsAt (tree_of (Join left right)) k p →
    StandsAt (tree_of left) k p ⊎ ((j : ℕ) × (k ≡ moved_parent (length (nodes_below left)) j) × StandsAt (tree_of right) j p)
stands-joined left right zero p s =
    elim (Contains-append_cases (root_patterns left) (root_patterns right) p (at_root (root_patterns left ++ root_patterns right) s.node p s.stands s.among))
    as (λ _. StandsAt (tree_of left) zero p ⊎ ((j : ℕ) × (zero ≡ moved_parent (length (nodes_below left)) j) × StandsAt (tree_of right) j p)) [
      | inl at ↦ inl (root_stands left p at)
      | inr at ↦ inr (0, refl, root_stands right p at)
    ]
stands-joined left right (suc k) p s =
    let d = length (nodes_below left) in
    elim (at_either (nodes_below left) (map (moved d) (nodes_below right)) k s.node s.stands)
    as (λ _. StandsAt (tree_of left) (suc k) p ⊎ ((j : ℕ) × (suc k ≡ moved_parent d j) × StandsAt (tree_of right) j p)) [
      | inl front ↦ inl (record { node = s.node; stands = front.1; among = s.among })
      | inr back ↦
          let from = from_map (moved d) (nodes_below right) back.0 s.node back.2 in
          inr (suc back.0, (let e = back.1 in omega arith), record { node = from.0; stands = from.1; among = subst (λ node. Contains node.patterns p) (sym from.2) s.among })
    ]

-- and one of a LeftJoin in the left side, or in the right side at a node that is hung
pub stands-optional : (left right : Algebra) (k : ℕ) (p : TriplePat) → StandsAt (tree_of (LeftJoin left right)) k p →
    StandsAt (tree_of left) k p ⊎ ((j : ℕ) × (k ≡ suc (j + length (nodes_below left))) × StandsAt (tree_of right) j p)
stands-optional left right zero p s = inl (root_stands left p (at_root (root_patterns left) s.node p s.stands s.among))
stands-optional left right (suc k) p s =
    let d = length (nodes_below left) in
    elim (at_either (nodes_below left) (map (hung d) (tree_of right)) k s.node s.stands)
    as (λ _. StandsAt (tree_of left) (suc k) p ⊎ ((j : ℕ) × (suc k ≡ suc (j + d)) × StandsAt (tree_of right) j p)) [
      | inl front ↦ inl (record { node = s.node; stands = front.1; among = s.among })
      | inr back ↦
          let from = from_map (hung d) (tree_of right) back.0 s.node back.2 in
          inr (back.0, (let e = back.1 in omega arith), record { node = from.0; stands = from.1; among = subst (λ node. Contains node.patterns p) (sym from.2) s.among })
    ]

-- what stands in the tree is a triple pattern of the pattern
pub stands-listed : (pattern : Algebra) (k : ℕ) (p : TriplePat) → StandsAt (tree_of pattern) k p → Contains (triple_patterns pattern) p
stands-listed (Bgp list) zero p s = at_root list s.node p s.stands s.among
stands-listed (Bgp list) (suc k) p s = let is = s.stands in cc
stands-listed (Join left right) k p s = elim (stands-joined left right k p s) as (λ _. Contains (triple_patterns left ++ triple_patterns right) p) [
  | inl there ↦ Contains-append_left (triple_patterns left) (triple_patterns right) p (stands-listed left k p there)
  | inr there ↦ Contains-append_right (triple_patterns left) (triple_patterns right) p (stands-listed right there.0 p there.2)
]
stands-listed (LeftJoin left right) k p s = elim (stands-optional left right k p s) as (λ _. Contains (triple_patterns left ++ triple_patterns right) p) [
  | inl there ↦ Contains-append_left (triple_patterns left) (triple_patterns right) p (stands-listed left k p there)
  | inr there ↦ Contains-append_right (triple_patterns left) (triple_patterns right) p (stands-listed right there.0 p there.2)
]

-- ---- a set of nodes

-- each of its triple patterns stands at a node of the set
pub patterns_of-stands : (nodes : List TreeNode) (set : ℕ → Bool) (p : TriplePat) → Contains (patterns_of nodes set) p → (k : ℕ) × StandsAt nodes k p × IsTrue (set k)
patterns_of-stands [] set p at = absurd (Contains-nil p at)
patterns_of-stands (node ∷ nodes) set p at =
    elim (Contains-append_cases (if set 0 then node.patterns else []) (patterns_of nodes (λ k. set (suc k))) p at)
    as (λ _. (k : ℕ) × StandsAt (node ∷ nodes) k p × IsTrue (set k)) [
      | inl here ↦ let own = own_at (set 0) node.patterns here in (0, record { node = node; stands = refl; among = own.1 }, own.0)
      | inr later ↦
          let rest = patterns_of-stands nodes (λ k. set (suc k)) p later in
          let s = rest.1 in
          (suc rest.0, record { node = s.node; stands = s.stands; among = s.among }, rest.2)
    ] where
      own_at : (b : Bool) (patterns : List TriplePat) → Contains (if b then patterns else []) p → IsTrue b × Contains patterns p
      own_at true patterns at = (refl, at)
      own_at false patterns at = absurd (Contains-nil p at)

-- and each that stands there is one of them
pub stands-patterns_of : (nodes : List TreeNode) (set : ℕ → Bool) (k : ℕ) (p : TriplePat) → StandsAt nodes k p → IsTrue (set k) → Contains (patterns_of nodes set) p
stands-patterns_of [] set k p s held = let is = s.stands in cc
stands-patterns_of (node ∷ nodes) set zero p s held =
    let is = s.stands in
    let same : node ≡ s.node = cc in
    let own : Contains (if set 0 then node.patterns else []) p = subst (λ b. Contains (if b then node.patterns else []) p) (sym held) (subst (λ node. Contains node.patterns p) (sym same) s.among) in
    Contains-append_left (if set 0 then node.patterns else []) (patterns_of nodes (λ k. set (suc k))) p own
stands-patterns_of (node ∷ nodes) set (suc k) p s held =
    Contains-append_right (if set 0 then node.patterns else []) (patterns_of nodes (λ k. set (suc k))) p
    (stands-patterns_of nodes (λ k. set (suc k)) k p (record { node = s.node; stands = s.stands; among = s.among }) held)

-- a rooted set that holds a node holds each node above
pub holds_above : (tree : List TreeNode) (set : ℕ → Bool) (above k : ℕ) → IsRooted tree set → IsWithin tree above k → IsTrue (set k) → IsTrue (set above)
holds_above tree set above k rooted itself held = held
holds_above tree set above k rooted (below {parent = parent} node is has rest) held = holds_above tree set above parent rooted rest (rooted.parents k parent node is has held)
