-- Grown from a root without triple patterns, the nodes are the tree.
use Rattle.std.proofs.Common.{◌≡◌, ℕ, zero, suc, ◌+◌, ◌<◌, ◌++◌, List, [], ◌∷◌, length, map, Option, Some, None, Result, Ok, Err, OnOk, set, refl, sym, ◌∙◌, ap, arith, append_assoc, append-nil}
use Rattle.std.specs.Prelude.{slice_get}
use Rattle.std.proofs.lemmas.List.{length-append, length-map, map-append}
use Rattle.alg_model.specs.declared.pattern.TriplePat.{TriplePat}
use Rattle.alg_model.specs.Pattern.{Algebra, Bgp, Join, LeftJoin, optional_parts}
use Rattle.pattern_tree.specs.Tree.{TreeNode, root_patterns, moved_parent, moved_option, moved, hung_parent, hung, nodes_below, tree_of}
use Rattle.pattern_tree.specs.Growing.{extended, put, fresh, grown}
use Rattle.pattern_tree.proofs.Nodes.{HasParent, below-HasParent}

-- a node with this parent and these triple patterns
abbrev node_of : Option ℕ → List TriplePat → TreeNode
node_of parent patterns = record { parent = parent; patterns = patterns }

-- ---- maps

-- functions that give the same of each item of a list give the same list
map-along : {X Y : Type 0} (f g : X → Y) (xs : List X) → ((k : ℕ) (x : X) → slice_get xs k ≡ Some x → f x ≡ g x) → map f xs ≡ map g xs
map-along f g [] same = refl
map-along f g (x ∷ xs) same = ap (λ y. y ∷ map f xs) (same 0 x refl) ∙ ap (λ ys. g x ∷ ys) (map-along f g xs (λ k x is. same (suc k) x is))

map-twice : {X Y Z : Type 0} (f : Y → Z) (g : X → Y) (xs : List X) → map f (map g xs) ≡ map (λ x. f (g x)) xs
map-twice f g [] = refl
map-twice f g (x ∷ xs) = ap (λ zs. f (g x) ∷ zs) (map-twice f g xs)

map-itself : {X : Type 0} (f : X → X) (xs : List X) → ((k : ℕ) (x : X) → slice_get xs k ≡ Some x → f x ≡ x) → map f xs ≡ xs
map-itself f [] same = refl
map-itself f (x ∷ xs) same = ap (λ y. y ∷ map f xs) (same 0 x refl) ∙ ap (λ ys. x ∷ ys) (map-itself f xs (λ k x is. same (suc k) x is))

-- ---- triple patterns at a node

length-put : (nodes : List TreeNode) (k : ℕ) (patterns : List TriplePat) → length (put nodes k patterns) ≡ length nodes
length-put [] k patterns = refl
length-put (node ∷ nodes) zero patterns = refl
length-put (node ∷ nodes) (suc k) patterns = ap suc (length-put nodes k patterns)

put-front : (nodes others : List TreeNode) (k : ℕ) (patterns : List TriplePat) → k < length nodes → put (nodes ++ others) k patterns ≡ put nodes k patterns ++ others
put-front [] others k patterns low = absurd (omega arith)
put-front (node ∷ nodes) others zero patterns low = refl
put-front (node ∷ nodes) others (suc k) patterns low = ap (λ list. node ∷ list) (put-front nodes others k patterns (omega arith))

put-last : (nodes : List TreeNode) (node : TreeNode) (patterns : List TriplePat) → put (nodes ++ node ∷ []) (length nodes) patterns ≡ nodes ++ extended node patterns ∷ []
put-last [] node patterns = refl
put-last (other ∷ nodes) node patterns = ap (λ list. other ∷ list) (put-last nodes node patterns)

put-twice : (nodes : List TreeNode) (k : ℕ) (first second : List TriplePat) → put (put nodes k first) k second ≡ put nodes k (first ++ second)
put-twice [] k first second = refl
put-twice (node ∷ nodes) zero first second = ap (λ patterns. node_of node.parent patterns ∷ nodes) (append_assoc node.patterns first second)
put-twice (node ∷ nodes) (suc k) first second = ap (λ list. node ∷ list) (put-twice nodes k first second)

-- ---- nodes at their place in the grown list

-- the nodes below a root go after d nodes, and their root is the node `root`
abbrev placed_parent : ℕ → ℕ → ℕ → ℕ
placed_parent root d zero = root
placed_parent root d (suc k) = k + d

abbrev placed_option : ℕ → ℕ → Option ℕ → Option ℕ
placed_option root d None = None
placed_option root d (Some parent) = Some (placed_parent root d parent)

abbrev placed : ℕ → ℕ → TreeNode → TreeNode
placed root d node = node_of (placed_option root d node.parent) node.patterns

-- nodes that were moved
placed_moved : (root d e parent : ℕ) → placed_parent root d (moved_parent e parent) ≡ placed_parent root (d + e) parent
placed_moved root d e zero = refl
placed_moved root d e (suc k) = omega arith

placed-moved : (root d e : ℕ) (node : TreeNode) (k : ℕ) → HasParent node k → placed root d (moved e node) ≡ placed root (d + e) node
placed-moved root d e node k h =
    let first : (moved e node).parent ≡ Some (moved_parent e h.parent) = ap (moved_option e) h.is in
    ap (λ parent. node_of (placed_option root d parent) node.patterns) first ∙ ap (λ parent. node_of (Some parent) node.patterns) (placed_moved root d e h.parent)
    ∙ sym (ap (λ parent. node_of (placed_option root (d + e) parent) node.patterns) h.is)

-- nodes that were hung
placed_hung : (root d e parent : ℕ) → placed_parent root d (suc (parent + e)) ≡ placed_parent (d + e) (suc (d + e)) parent
placed_hung root d e zero = omega arith
placed_hung root d e (suc k) = omega arith

placed-hung : (root d e : ℕ) (node : TreeNode) (k : ℕ) → HasParent node k → placed root d (hung e node) ≡ placed (d + e) (suc (d + e)) node
placed-hung root d e node k h =
    ap (λ parent. node_of (Some (placed_parent root d (hung_parent e parent))) node.patterns) h.is ∙ ap (λ parent. node_of (Some parent) node.patterns) (placed_hung root d e h.parent)
    ∙ sym (ap (λ parent. node_of (placed_option (d + e) (suc (d + e)) parent) node.patterns) h.is)

-- ---- the grown nodes

-- how many there are
pub length-grown : (pattern : Algebra) (nodes : List TreeNode) (root : ℕ) → length (grown nodes root pattern) ≡ length nodes + optional_parts pattern
length-grown (Bgp patterns) nodes root = omega (arith, length-put nodes root patterns)
length-grown (Join left right) nodes root = omega (arith, length-grown right (grown nodes root left) root, length-grown left nodes root)
length-grown (LeftJoin left right) nodes root =
    let before = grown nodes root left in
    omega (arith, length-grown right (before ++ fresh (Some root) ∷ []) (length before), length-grown left nodes root, length-append before (fresh (Some root) ∷ []))

-- the nodes that were there, and those below the root of the part
grown-is : (pattern : Algebra) (nodes : List TreeNode) (root : ℕ) → root < length nodes → grown nodes root pattern ≡ put nodes root (root_patterns pattern) ++ map (placed root (length nodes)) (nodes_below pattern)
grown-is (Bgp patterns) nodes root low = sym (append-nil (put nodes root patterns))
grown-is (Join left right) nodes root low =
    let d = length nodes in
    let e = length (nodes_below left) in
    let l = root_patterns left in
    let r = root_patterns right in
    let own = put nodes root l in
    let first = map (placed root d) (nodes_below left) in
    let before = own ++ first in
    let is_before : grown nodes root left ≡ before = grown-is left nodes root low in
    let long : length before ≡ d + e = omega (arith, length-append own first, length-put nodes root l, length-map (nodes_below left) (placed root d)) in
    let second = map (placed root (d + e)) (nodes_below right) in
    let turned : second ≡ map (placed root d) (map (moved e) (nodes_below right)) =
    map-along (placed root (d + e)) (λ node. placed root d (moved e node)) (nodes_below right) (λ k node is. sym (placed-moved root d e node k (below-HasParent right k node is)))
    ∙ sym (map-twice (placed root d) (moved e) (nodes_below right)) in
    ap (λ nodes. grown nodes root right) is_before
    ∙ grown-is right before root (omega (arith, length-put nodes root l))
    ∙ ap (λ d. put before root r ++ map (placed root d) (nodes_below right)) long
    ∙ ap (λ list. list ++ second) (put-front own first root r (omega (arith, length-put nodes root l)) ∙ ap (λ list. list ++ first) (put-twice nodes root l r))
    ∙ append_assoc (put nodes root (l ++ r)) first second
    ∙ ap (λ list. put nodes root (l ++ r) ++ list) (ap (λ list. first ++ list) turned ∙ sym (map-append (placed root d) (nodes_below left) (map (moved e) (nodes_below right))))
grown-is (LeftJoin left right) nodes root low =
    let d = length nodes in
    let e = length (nodes_below left) in
    let l = root_patterns left in
    let r = root_patterns right in
    let own = put nodes root l in
    let first = map (placed root d) (nodes_below left) in
    let before = own ++ first in
    let is_before : grown nodes root left ≡ before = grown-is left nodes root low in
    let long : length before ≡ d + e = omega (arith, length-append own first, length-put nodes root l, length-map (nodes_below left) (placed root d)) in
    let new = fresh (Some root) in
    let longer : length (before ++ new ∷ []) ≡ suc (d + e) = omega (arith, length-append before (new ∷ [])) in
    let child = node_of (Some root) r in
    let second = map (placed (d + e) (suc (d + e))) (nodes_below right) in
    let turned : second ≡ map (placed root d) (map (hung e) (nodes_below right)) =
    map-along (placed (d + e) (suc (d + e))) (λ node. placed root d (hung e node)) (nodes_below right) (λ k node is. sym (placed-hung root d e node k (below-HasParent right k node is)))
    ∙ sym (map-twice (placed root d) (hung e) (nodes_below right)) in
    ap (λ nodes. grown (nodes ++ new ∷ []) (length nodes) right) is_before
    ∙ grown-is right (before ++ new ∷ []) (length before) (omega arith)
    ∙ ap (λ list. list ++ map (placed (length before) (length (before ++ new ∷ []))) (nodes_below right)) (put-last before new r)
    ∙ ap (λ k. (before ++ child ∷ []) ++ map (placed k (length (before ++ new ∷ []))) (nodes_below right)) long
    ∙ ap (λ n. (before ++ child ∷ []) ++ map (placed (d + e) n) (nodes_below right)) longer
    ∙ append_assoc before (child ∷ []) second
    ∙ append_assoc own first (child ∷ second)
    ∙ ap (λ list. own ++ (first ++ (child ∷ list))) turned
    ∙ ap (λ list. own ++ list) (sym (map-append (placed root d) (nodes_below left) (map (hung e) (node_of None r ∷ nodes_below right))))

-- from a root without triple patterns
pub grown_is_tree : (pattern : Algebra) → grown (fresh None ∷ []) 0 pattern ≡ tree_of pattern
grown_is_tree pattern =
    grown-is pattern (fresh None ∷ []) 0 (omega arith)
    ∙ ap (λ nodes. node_of None (root_patterns pattern) ∷ nodes) (map-itself (placed 0 1) (nodes_below pattern) (λ k node is. at_place node k (below-HasParent pattern k node is))) where
      same_parent : (parent : ℕ) → placed_parent 0 1 parent ≡ parent
      same_parent zero = refl
      same_parent (suc k) = omega arith

      at_place : (node : TreeNode) (k : ℕ) → HasParent node k → placed 0 1 node ≡ node
      at_place node k h =
          let parent : placed_option 0 1 node.parent ≡ node.parent = ap (placed_option 0 1) h.is ∙ ap Some (same_parent h.parent) ∙ sym h.is in
          ap (λ parent. node_of parent node.patterns) parent

-- a tree has one node more than OPTIONALs
pub length-tree : (pattern : Algebra) → length (tree_of pattern) ≡ suc (optional_parts pattern)
length-tree pattern = ap length (sym (grown_is_tree pattern)) ∙ (let e = length-grown pattern (fresh None ∷ []) 0 in omega arith)

-- ---- steps of the code

-- a node that was extended in its place
pub set_is_put : (nodes : List TreeNode) (k : ℕ) (node new : TreeNode) (patterns : List TriplePat) → slice_get nodes k ≡ Some node → new ≡ extended node patterns → set nodes k new ≡ put nodes k patterns
set_is_put [] k node new patterns stands is = cc
set_is_put (other ∷ nodes) zero node new patterns stands is =
    let one : other ≡ node = cc in
    ap (λ new. new ∷ nodes) is ∙ ap (λ node. extended node patterns ∷ nodes) (sym one)
set_is_put (other ∷ nodes) (suc k) node new patterns stands is = ap (λ list. other ∷ list) (set_is_put nodes k node new patterns stands is)

-- what follows where a call succeeds
pub OnOk-along : {A E : Type 0} (result : Result A E) (P Q : Type 0) → (P → Q) → OnOk result P → OnOk result Q
OnOk-along (Ok value) P Q f h = f h
OnOk-along (Err error) P Q f h = h
