-- The sets of a node, cut out of those of the whole tree.
use Rattle.std.proofs.Common.{◌≡◌, ℕ, zero, suc, ◌+◌, ◌-◌, ◌<◌, ◌≤◌, ◌++◌, List, [], ◌∷◌, length, map, take, Some, refl, sym, ◌∙◌, ap, arith, append_assoc}
use Rattle.std.specs.List.Sorted.{IsNonDecreasing}
use Rattle.std.specs.Prelude.{slice_get, slice_index, slice_index_or, slice_range}
use Rattle.std.proofs.lemmas.List.{take_at, drop_at, length-append, length-map}
use Rattle.std.proofs.lemmas.List.Concat.{flat_map-append}
use Rattle.alg_model.specs.Pattern.{Algebra, Bgp, Join, LeftJoin, triple_patterns}
use Rattle.alg_model.specs.VarSet.{triple_set}
use Rattle.join_graph.specs.Nodes.{node_of}
use Rattle.pattern_tree.specs.Tree.{TreeNode, root_patterns, moved, hung, nodes_below, tree_of}
use Rattle.minimality_laws.specs.SimpleTree.{sets_of}
use Rattle.simple_tree_laws.specs.TreeSets.{ends_from, ends_of, sets_in}

-- the part between the first and the last of three lists
middle : (xs ys zs : List ℕ) (a b : ℕ) → length xs ≡ a → length ys ≡ b - a → slice_range (xs ++ (ys ++ zs)) a b ≡ ys
middle xs ys zs a b long long' = ap (take (b - a)) (drop_at xs (ys ++ zs) a long) ∙ take_at ys zs (b - a) long'

length-sets : (node : TreeNode) → length (sets_of node) ≡ length node.patterns
length-sets node = length-map node.patterns triple_set

-- where the sets of a node begin, behind n others
abbrev start_from : ℕ → List ℕ → ℕ → ℕ
start_from n ends zero = n
start_from n ends (suc k) = slice_index ends k

sets_between : (before : List ℕ) (n : ℕ) (tree : List TreeNode) (k : ℕ) (node : TreeNode) → length before ≡ n → slice_get tree k ≡ Some node →
    slice_range (before ++ sets_in tree) (start_from n (ends_from n tree) k) (slice_index (ends_from n tree) k) ≡ sets_of node
sets_between before n [] k node long is = cc
sets_between before n (first ∷ tree) zero node long is =
    let same : first ≡ node = cc in
    middle before (sets_of first) (sets_in tree) n (n + length first.patterns) long (omega (arith, length-sets first)) ∙ ap sets_of same
sets_between before n (first ∷ tree) (suc zero) node long is =
    let m = n + length first.patterns in
    ap (λ list. slice_range list m (slice_index (ends_from m tree) 0)) (sym (append_assoc before (sets_of first) (sets_in tree)))
    ∙ sets_between (before ++ sets_of first) m tree 0 node (omega (arith, long, length-append before (sets_of first), length-sets first)) is
sets_between before n (first ∷ tree) (suc (suc k)) node long is =
    let m = n + length first.patterns in
    ap (λ list. slice_range list (slice_index (ends_from m tree) k) (slice_index (ends_from m tree) (suc k))) (sym (append_assoc before (sets_of first) (sets_in tree)))
    ∙ sets_between (before ++ sets_of first) m tree (suc k) node (omega (arith, long, length-append before (sets_of first), length-sets first)) is

pub sets_at : (tree : List TreeNode) (k : ℕ) (node : TreeNode) → slice_get tree k ≡ Some node → node_of (ends_of tree) (sets_in tree) k ≡ sets_of node
sets_at tree zero node is = sets_between [] 0 tree zero node refl is
sets_at tree (suc k) node is = sets_between [] 0 tree (suc k) node refl is

-- ---- the ends

pub length-ends : (n : ℕ) (tree : List TreeNode) → length (ends_from n tree) ≡ length tree
length-ends n [] = refl
length-ends n (node ∷ tree) = ap suc (length-ends (n + length node.patterns) tree)

-- the last end is that of all sets
pub last_end : (n : ℕ) (tree : List TreeNode) → 0 < length tree → slice_index (ends_from n tree) (length (ends_from n tree) - 1) ≡ n + length (sets_in tree)
last_end n [] some = absurd (omega (arith, some))
last_end n (node ∷ []) some =
    let e : n + length node.patterns ≡ n + length (sets_in (node ∷ [])) = omega (arith, length-append (sets_of node) [], length-sets node) in
    e
last_end n (node ∷ (next ∷ tree)) some =
    let m = n + length node.patterns in
    let rest = last_end m (next ∷ tree) (omega arith) in
    let place : length (ends_from n (node ∷ (next ∷ tree))) - 1 ≡ suc (length (ends_from m (next ∷ tree)) - 1) = omega arith in
    let e : m + length (sets_in (next ∷ tree)) ≡ n + length (sets_in (node ∷ (next ∷ tree))) = omega (arith, length-append (sets_of node) (sets_in (next ∷ tree)), length-sets node) in
    ap (slice_index (ends_from n (node ∷ (next ∷ tree)))) place ∙ rest ∙ e

-- each end is behind the start, and they never fall
ends_behind : (n : ℕ) (tree : List TreeNode) (j d : ℕ) → j < length (ends_from n tree) → n ≤ slice_index_or (ends_from n tree) j d
ends_behind n [] j d low = absurd (omega (arith, low))
ends_behind n (node ∷ tree) zero d low = omega arith
ends_behind n (node ∷ tree) (suc j) d low = let rest = ends_behind (n + length node.patterns) tree j d (omega (arith, low)) in omega (arith, rest)

pub ends_rise : (n : ℕ) (tree : List TreeNode) → IsNonDecreasing (ends_from n tree)
ends_rise n [] i j d order low = absurd (omega (arith, low))
ends_rise n (node ∷ tree) zero zero d order low = omega arith
ends_rise n (node ∷ tree) zero (suc j) d order low = ends_behind (n + length node.patterns) tree j d (omega (arith, low))
ends_rise n (node ∷ tree) (suc i) zero d order low = absurd (omega (arith, order))
ends_rise n (node ∷ tree) (suc i) (suc j) d order low = ends_rise (n + length node.patterns) tree i j d (omega (arith, order)) (omega (arith, low))

-- ---- as many sets as triple patterns

moved_sets : (d : ℕ) (nodes : List TreeNode) → sets_in (map (moved d) nodes) ≡ sets_in nodes
moved_sets d [] = refl
moved_sets d (node ∷ nodes) = ap (λ rest. sets_of node ++ rest) (moved_sets d nodes)

hung_sets : (d : ℕ) (nodes : List TreeNode) → sets_in (map (hung d) nodes) ≡ sets_in nodes
hung_sets d [] = refl
hung_sets d (node ∷ nodes) = ap (λ rest. sets_of node ++ rest) (hung_sets d nodes)

both_sets : (xs ys : List TreeNode) → length (sets_in (xs ++ ys)) ≡ length (sets_in xs) + length (sets_in ys)
both_sets xs ys = ap length (flat_map-append sets_of xs ys) ∙ length-append (sets_in xs) (sets_in ys)

tree_sets : (pattern : Algebra) → length (sets_in (tree_of pattern)) ≡ length (root_patterns pattern) + length (sets_in (nodes_below pattern))
tree_sets pattern =
    let patterns = root_patterns pattern in
    omega (arith, length-append (map triple_set patterns) (sets_in (nodes_below pattern)), length-map patterns triple_set)

below_sets : (pattern : Algebra) → length (root_patterns pattern) + length (sets_in (nodes_below pattern)) ≡ length (triple_patterns pattern)
below_sets (Bgp list) = omega arith
below_sets (Join left right) =
    let d = length (nodes_below left) in
    let both = both_sets (nodes_below left) (map (moved d) (nodes_below right)) in
    let same = ap length (moved_sets d (nodes_below right)) in
    omega (arith, both, same, below_sets left, below_sets right, length-append (root_patterns left) (root_patterns right), length-append (triple_patterns left) (triple_patterns right))
below_sets (LeftJoin left right) =
    let d = length (nodes_below left) in
    let both = both_sets (nodes_below left) (map (hung d) (tree_of right)) in
    let same = ap length (hung_sets d (tree_of right)) in
    omega (arith, both, same, below_sets left, below_sets right, tree_sets right, length-append (triple_patterns left) (triple_patterns right))

pub all_sets : (pattern : Algebra) → length (sets_in (tree_of pattern)) ≡ length (triple_patterns pattern)
all_sets pattern = tree_sets pattern ∙ below_sets pattern
