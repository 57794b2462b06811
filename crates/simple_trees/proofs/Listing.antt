-- The lists of a tree: node by node, and how many triple patterns there are.
use Rattle.std.proofs.Common.{◌≡◌, ℕ, suc, ◌+◌, ◌++◌, List, [], ◌∷◌, length, map, take, Some, sym, ◌∙◌, ap, refl, arith, append_assoc, zero-add}
use Rattle.std.specs.Prelude.{slice_get}
use Rattle.std.proofs.Math.Seq.{take-suc}
use Rattle.std.proofs.lemmas.Option.{get_or_from_slice_get, slice_get_within}
use Rattle.std.proofs.lemmas.List.{length-append, length-map}
use Rattle.alg_model.specs.declared.pattern.TriplePat.{TriplePat}
use Rattle.alg_model.specs.VarSet.{triple_set}
use Rattle.pattern_tree.specs.Tree.{TreeNode}
use Rattle.minimality_laws.specs.SimpleTree.{sets_of}
use Rattle.pruning_laws.specs.SceneOf.{number_of}
use Rattle.simple_tree_laws.specs.TreeSets.{parents_of, ends_from, ends_of, sets_in}
use Rattle.simple_trees.specs.steps.Listed.{AreListsOf}

-- of nodes and one more
parents_of-push : (nodes : List TreeNode) (node : TreeNode) → parents_of (nodes ++ node ∷ []) ≡ parents_of nodes ++ number_of node.parent ∷ []
parents_of-push [] node = refl
parents_of-push (first ∷ nodes) node = ap (λ l. number_of first.parent ∷ l) (parents_of-push nodes node)

sets_in-push : (nodes : List TreeNode) (node : TreeNode) → sets_in (nodes ++ node ∷ []) ≡ sets_in nodes ++ sets_of node
sets_in-push [] node = append-nil-right (sets_of node)
  where
    append-nil-right : (l : List ℕ) → l ++ [] ≡ l
    append-nil-right [] = refl
    append-nil-right (x ∷ l) = ap (λ l. x ∷ l) (append-nil-right l)
sets_in-push (first ∷ nodes) node = ap (λ l. sets_of first ++ l) (sets_in-push nodes node) ∙ sym (append_assoc (sets_of first) (sets_in nodes) (sets_of node))

ends_from-push : (n : ℕ) (nodes : List TreeNode) (node : TreeNode) →
    ends_from n (nodes ++ node ∷ []) ≡ ends_from n nodes ++ (n + length (sets_in (nodes ++ node ∷ []))) ∷ []
ends_from-push n [] node =
    let same : n + length node.patterns ≡ n + length (sets_of node ++ []) = omega (arith, length-append (sets_of node) [], length-map node.patterns triple_set) in
    ap (λ end. end ∷ []) same
ends_from-push n (first ∷ nodes) node =
    let m = n + length first.patterns in
    let same : m + length (sets_in (nodes ++ node ∷ [])) ≡ n + length (sets_of first ++ sets_in (nodes ++ node ∷ [])) =
    omega (arith, length-append (sets_of first) (sets_in (nodes ++ node ∷ [])), length-map first.patterns triple_set) in
    ap (λ l. m ∷ l) (ends_from-push m nodes node ∙ ap (λ end. ends_from m nodes ++ end ∷ []) same)

ends_of-push : (nodes : List TreeNode) (node : TreeNode) → ends_of (nodes ++ node ∷ []) ≡ ends_of nodes ++ length (sets_in (nodes ++ node ∷ [])) ∷ []
ends_of-push nodes node = ends_from-push 0 nodes node ∙ ap (λ end. ends_of nodes ++ end ∷ []) (zero-add (length (sets_in (nodes ++ node ∷ []))))

succ : (k : ℕ) → k + 1 ≡ suc k
succ k = omega arith

-- the first k items and the next one
next_taken : {X : Type 0} (xs : List X) (k : ℕ) (x : X) → slice_get xs k ≡ Some x → take (k + 1) xs ≡ take k xs ++ x ∷ []
next_taken xs k x at = ap (λ n. take n xs) (succ k) ∙ take-suc xs k x (slice_get_within xs k x at) ∙ ap (λ y. take k xs ++ y ∷ []) (get_or_from_slice_get xs k x x at)

map-push : (xs : List TriplePat) (x : TriplePat) → map triple_set (xs ++ x ∷ []) ≡ map triple_set xs ++ triple_set x ∷ []
map-push [] x = refl
map-push (y ∷ xs) x = ap (λ l. triple_set y ∷ l) (map-push xs x)

-- sets, and that of the next triple pattern
pub sets-push : (patterns : List TriplePat) (i : ℕ) (p : TriplePat) (before into new : List ℕ) (set : ℕ) → slice_get patterns i ≡ Some p → set ≡ triple_set p →
    into ≡ before ++ map triple_set (take i patterns) → new ≡ into ++ set ∷ [] → new ≡ before ++ map triple_set (take (i + 1) patterns)
sets-push patterns i p before into new set at is_set was is_new =
    is_new ∙ (λ j. was j ++ is_set j ∷ []) ∙ append_assoc before (map triple_set (take i patterns)) (triple_set p ∷ [])
    ∙ ap (λ l. before ++ l) (sym (map-push (take i patterns) p) ∙ ap (map triple_set) (sym (next_taken patterns i p at)))

pub lists-push : (tree : List TreeNode) (k : ℕ) (node : TreeNode) (parents ends sets : List ℕ) (parent end : ℕ) → slice_get tree k ≡ Some node →
    AreListsOf (take k tree) parents ends sets → parent ≡ number_of node.parent → end ≡ length (sets ++ sets_of node) →
    AreListsOf (take (k + 1) tree) (parents ++ parent ∷ []) (ends ++ end ∷ []) (sets ++ sets_of node)
lists-push tree k node parents ends sets parent end at before is_parent is_end =
    let taken = next_taken tree k node at in
    let all : sets ++ sets_of node ≡ sets_in (take k tree ++ node ∷ []) = ap (λ l. l ++ sets_of node) before.are_sets ∙ sym (sets_in-push (take k tree) node) in
    record {
      are_parents = (λ i. before.are_parents i ++ is_parent i ∷ []) ∙ sym (parents_of-push (take k tree) node) ∙ ap parents_of (sym taken);
      are_ends = (λ i. before.are_ends i ++ (is_end ∙ ap length all) i ∷ []) ∙ sym (ends_of-push (take k tree) node) ∙ ap ends_of (sym taken);
      are_sets = all ∙ ap sets_in (sym taken);
    }
