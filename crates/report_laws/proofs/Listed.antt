-- Each triple pattern of a pattern stands somewhere in its tree, so lengths by place are all that there are.
use Rattle.std.proofs.Common.{◌≡◌, ℕ, ◌+◌, ◌<◌, ◌++◌, ◌⊎◌, inl, inr, List, [], ◌∷◌, get_or, length, map, Contains, Some, None, sym, ◌∙◌, ap, subst, arith}
use Rattle.std.specs.Prelude.{slice_get}
use Rattle.std.specs.List.{range_with_len}
use Rattle.std.specs.Option.{option_map}
use Rattle.std.proofs.lemmas.List.{ext_get_or}
use Rattle.std.proofs.lemmas.List.Elements.{Contains-append_left, Contains-append_right, Contains-append_cases, Contains-get_or}
use Rattle.std.proofs.lemmas.List.FromFn.{length-range_with_len, get_or-range_with_len}
use Rattle.std.proofs.lemmas.Option.{slice_get-get_or, slice_get-map, get_or_from_slice_get}
use Rattle.bm_term.proofs.Elements.{Contains-head, Contains-tail}
use Rattle.alg_model.specs.declared.pattern.Place.TheVariants as places
use Rattle.alg_model.specs.declared.pattern.TriplePat.{TriplePat}
use Rattle.alg_model.specs.Limits.{PatternKeepsLimits}
use Rattle.alg_model.specs.Pattern.{Algebra, Bgp, Join, LeftJoin, triple_patterns}
use Rattle.pattern_tree.specs.Solution.{Family}
use Rattle.pattern_tree.specs.Standing.{StandsAt}
use Rattle.pattern_tree.specs.Tree.{TreeNode, root_patterns, nodes_below, moved, hung, tree_of}
use Rattle.pattern_tree.proofs.Pruning.{Contains-map}
use Rattle.pruning_laws.specs.Shown.{entry_of}
use Rattle.report_laws.specs.Report.{AreLengths}

-- it is one of some node's
abbrev IsBelow : List TreeNode → TriplePat → Type 0
IsBelow nodes p = (node : TreeNode) × Contains nodes node × Contains node.patterns p

below_left : (xs ys : List TreeNode) (p : TriplePat) → IsBelow xs p → IsBelow (xs ++ ys) p
below_left xs ys p is = (is.0, Contains-append_left xs ys is.0 is.1, is.2)

below_right : (xs ys : List TreeNode) (p : TriplePat) → IsBelow ys p → IsBelow (xs ++ ys) p
below_right xs ys p is = (is.0, Contains-append_right xs ys is.0 is.1, is.2)

below_moved : (d : ℕ) (nodes : List TreeNode) (p : TriplePat) → IsBelow nodes p → IsBelow (map (moved d) nodes) p
below_moved d nodes p is = (moved d is.0, Contains-map (moved d) nodes is.0 is.1, is.2)

below_hung : (d : ℕ) (nodes : List TreeNode) (p : TriplePat) → IsBelow nodes p → IsBelow (map (hung d) nodes) p
below_hung d nodes p is = (hung d is.0, Contains-map (hung d) nodes is.0 is.1, is.2)

-- or of the root
abbrev IsThere : Algebra → TriplePat → Type 0
IsThere pattern p = Contains (root_patterns pattern) p ⊎ IsBelow (nodes_below pattern) p

is_there : (pattern : Algebra) (p : TriplePat) → Contains (triple_patterns pattern) p → IsThere pattern p
is_there (Bgp list) p at = inl at
is_there (Join left right) p at = elim (Contains-append_cases (triple_patterns left) (triple_patterns right) p at) as (λ _. IsThere (Join left right) p) [
  | inl first ↦ elim (is_there left p first) as (λ _. IsThere (Join left right) p) [
    | inl root ↦ inl (Contains-append_left (root_patterns left) (root_patterns right) p root)
    | inr below ↦ inr (below_left (nodes_below left) (map (moved (length (nodes_below left))) (nodes_below right)) p below)
  ]
  | inr second ↦ elim (is_there right p second) as (λ _. IsThere (Join left right) p) [
    | inl root ↦ inl (Contains-append_right (root_patterns left) (root_patterns right) p root)
    | inr below ↦ inr (below_right (nodes_below left) (map (moved (length (nodes_below left))) (nodes_below right)) p (below_moved (length (nodes_below left)) (nodes_below right) p below))
  ]
]
is_there (LeftJoin left right) p at =
    let d = length (nodes_below left) in
    let root_of : TreeNode = record { parent = None; patterns = root_patterns right } in
    let hangs : IsBelow (root_of ∷ nodes_below right) p → IsThere (LeftJoin left right) p =
    λ below. inr (below_right (nodes_below left) (map (hung d) (root_of ∷ nodes_below right)) p (below_hung d (root_of ∷ nodes_below right) p below)) in
    elim (Contains-append_cases (triple_patterns left) (triple_patterns right) p at) as (λ _. IsThere (LeftJoin left right) p) [
      | inl first ↦ elim (is_there left p first) as (λ _. IsThere (LeftJoin left right) p) [
        | inl root ↦ inl root
        | inr below ↦ inr (below_left (nodes_below left) (map (hung d) (root_of ∷ nodes_below right)) p below)
      ]
      | inr second ↦ elim (is_there right p second) as (λ _. IsThere (LeftJoin left right) p) [
        | inl root ↦ hangs (root_of, Contains-head root_of (nodes_below right), root)
        | inr below ↦ hangs (below.0, Contains-tail root_of (nodes_below right) below.0 below.1, below.2)
      ]
    ]

-- a triple pattern of a node of the tree stands there
pub node_stands : (tree : List TreeNode) (node : TreeNode) (p : TriplePat) → Contains tree node → Contains node.patterns p → (k : ℕ) × StandsAt tree k p
node_stands tree node p at among = (at.0, record { node = node; stands = slice_get-get_or tree at.0 node at.1 ∙ ap (λ node. Some node) at.2; among = among })

listed_stands : (pattern : Algebra) (p : TriplePat) → Contains (triple_patterns pattern) p → (k : ℕ) × StandsAt (tree_of pattern) k p
listed_stands pattern p at =
    let root : TreeNode = record { parent = None; patterns = root_patterns pattern } in
    elim (is_there pattern p at) as (λ _. (k : ℕ) × StandsAt (tree_of pattern) k p) [
      | inl among ↦ node_stands (tree_of pattern) root p (Contains-head root (nodes_below pattern)) among
      | inr below ↦ node_stands (tree_of pattern) below.0 p (Contains-tail root (nodes_below pattern) below.0 below.1) below.2
    ]

-- ---- the triple pattern at a place of the text

record IsPlaced (pattern : Algebra) (i : ℕ) : Type 0 where
  node : ℕ
  part : TriplePat
  stands : StandsAt (tree_of pattern) node part
  entry : entry_of part ≡ i

no_pattern : TriplePat
no_pattern = record { subject = places.Term []; predicate = places.Term []; object = places.Term []; number = 0 }

placed : (n : ℕ) (pattern : Algebra) (i : ℕ) → PatternKeepsLimits n pattern → i < length (triple_patterns pattern) → IsPlaced pattern i
placed n pattern i keeps low =
    let list = triple_patterns pattern in
    let part = get_or list i no_pattern in
    let stands = listed_stands pattern part (Contains-get_or list i no_pattern low) in
    let inside : i < length (range_with_len 1 (length list)) = (let long = length-range_with_len 1 (length list) in omega (arith, low, long)) in
    let first : slice_get (map (λ triple. triple.number) list) i ≡ Some part.number = slice_get-map (λ triple. triple.number) list i ∙ ap (option_map (λ triple. triple.number)) (slice_get-get_or list i no_pattern low) in
    let second : slice_get (range_with_len 1 (length list)) i ≡ Some (1 + i) = slice_get-get_or (range_with_len 1 (length list)) i 0 inside ∙ ap (λ k. Some k) (get_or-range_with_len 1 (length list) i 0 low) in
    let both : Some part.number ≡ Some (1 + i) = sym first ∙ ap (λ numbers. slice_get numbers i) keeps.numbered ∙ second in
    let is : part.number ≡ 1 + i = cc in
    record { node = stands.0; part = part; stands = stands.1; entry = omega (arith, is) }

-- lengths of lists that are as long are the same
pub one_lengths : {X Y : Type 0} (n : ℕ) (pattern : Algebra) (family : Family X) (other : Family Y) (lengths others : List ℕ) → PatternKeepsLimits n pattern →
    ((k : ℕ) (part : TriplePat) → StandsAt (tree_of pattern) k part → length (family part) ≡ length (other part)) → AreLengths pattern family lengths → AreLengths pattern other others → lengths ≡ others
one_lengths n pattern family other lengths others keeps same are are' = ext_get_or 0 lengths others (are.long ∙ sym are'.long) each where
  each : (i : ℕ) → i < length lengths → get_or lengths i 0 ≡ get_or others i 0
  each i low =
      let at = placed n pattern i keeps (let long = are.long in omega (arith, low, long)) in
      let first = subst (λ i. slice_get lengths i ≡ Some (length (family at.part))) at.entry (are.each at.node at.part at.stands) in
      let second = subst (λ i. slice_get others i ≡ Some (length (other at.part))) at.entry (are'.each at.node at.part at.stands) in
      get_or_from_slice_get lengths i (length (family at.part)) 0 first ∙ same at.node at.part at.stands ∙ sym (get_or_from_slice_get others i (length (other at.part)) 0 second)
