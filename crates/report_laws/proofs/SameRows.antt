-- Families whose lists have the same triples, in another order, have the same join order and the same flat rows, in another
-- order.
use Rattle.std.proofs.Common.{◌≡◌, ℕ, suc, Bool, true, false, if◌then◌else◌, ◌++◌, inl, inr, List, [], ◌∷◌, flat_map, Contains, Option, Some, None, sym, ◌∙◌, arith}
use Rattle.std.specs.Prelude.{IsPermutation}
use Rattle.std.proofs.lemmas.List.Sorted.{Contains-permutation, IsPermutation-refl, IsPermutation-sym, IsPermutation-trans, length_permutation}
use Rattle.bm_term.proofs.Elements.{Contains-head, Contains-tail}
use Rattle.alg_model.specs.declared.pattern.TriplePat.{TriplePat}
use Rattle.alg_model.specs.Eval.{Interpretation, match_of, matches_of}
use Rattle.alg_model.specs.Pattern.{Bgp, triple_vars, vars_of}
use Rattle.alg_model.specs.Row.{Row, unbound, merged}
use Rattle.alg_model.proofs.Order.{IsPermutation-flat_map, IsPermutation-flat_map_each, IsPermutation-filter_map}
use Rattle.multiway_join.specs.FlatRows.{or_dead_end, with_node, has_parent, continued, ends, rows_from, flat_rows_of}
use Rattle.multiway_join.specs.JoinOrder.{IsNoLater, AreInOrder, AreNodeOrders}
use Rattle.multiway_join.proofs.Sound.{root_alone, after_end, after_root}
use Rattle.pattern_tree.specs.Solution.{Family}
use Rattle.pattern_tree.specs.Tree.{TreeNode}

-- ---- the join order for the same lengths

module _ (counts other : TriplePat → ℕ) where
  no_later : (p q : TriplePat) → counts p ≡ other p → counts q ≡ other q → IsNoLater counts p q → IsNoLater other p q
  no_later p q is is' (inl low) = inl (omega (arith, low, is, is'))
  no_later p q is is' (inr at) = inr (sym is ∙ at.0 ∙ is', at.1)

  in_order : (seen : List ℕ) (ps : List TriplePat) → ((p : TriplePat) → Contains ps p → counts p ≡ other p) → AreInOrder counts seen ps → AreInOrder other seen ps
  in_order seen [] same are = tt
  in_order seen (p ∷ ps) same are = (
    record { may = are.0.may; least = λ q may. no_later p q (same p (Contains-head p ps)) (same q may.0) (are.0.least q may) },
    in_order (seen ++ triple_vars p) ps (λ q at. same q (Contains-tail p ps q at)) are.1,
  )

  pub same_orders : (seen : List ℕ) (nodes ordered : List TreeNode) → ((node : TreeNode) (p : TriplePat) → Contains nodes node → Contains node.patterns p → counts p ≡ other p) → AreNodeOrders counts seen nodes ordered → AreNodeOrders other seen nodes ordered
  same_orders seen [] [] same are = tt
  same_orders seen [] (first ∷ ordered) same are = absurd are
  same_orders seen (node ∷ nodes) [] same are = absurd are
  same_orders seen (node ∷ nodes) (first ∷ ordered) same are = (
    record {
      parent = are.0.parent;
      patterns = are.0.patterns;
      in_order = in_order seen first.patterns
          (λ p at. same node p (Contains-head node nodes) (Contains-permutation first.patterns node.patterns p (IsPermutation-sym node.patterns first.patterns are.0.patterns) at)) are.0.in_order;
    },
    same_orders (seen ++ vars_of (Bgp first.patterns)) nodes ordered (λ later p at. same later p (Contains-tail node nodes later at)) are.1,
  )

-- ---- flat rows

dead_ends : {Y : Type 0} (xs ys : List (Option Y)) → IsPermutation xs ys → IsPermutation (or_dead_end xs) (or_dead_end ys)
dead_ends [] [] is = IsPermutation-refl (None ∷ [])
dead_ends {Y} [] (y ∷ ys) is = let long = length_permutation [] (y ∷ ys) is in absurd (omega (arith, long))
dead_ends (x ∷ xs) [] is = let long = length_permutation (x ∷ xs) [] is in absurd (omega (arith, long))
dead_ends (x ∷ xs) (y ∷ ys) is = is

-- what f gives of some items and what g gives of them in another order
both_moved : {X Y : Type 0} (f g : X → List Y) (xs ys : List X) → ((x : X) → IsPermutation (f x) (g x)) → IsPermutation xs ys → IsPermutation (flat_map f xs) (flat_map g ys)
both_moved f g xs ys each is = IsPermutation-trans (flat_map f xs) (flat_map f ys) (flat_map g ys) (IsPermutation-flat_map f xs ys is) (IsPermutation-flat_map_each f g each ys)

module _ {V X : Type 0} (interpretation : Interpretation V X) (n : ℕ) (family other : Family X) where
  -- the lists of these triple patterns have the same triples
  abbrev AreMoved : List TriplePat → Type 0
  AreMoved ps = (p : TriplePat) → Contains ps p → IsPermutation (family p) (other p)

  abbrev pub NodesMoved : List TreeNode → Type 0
  NodesMoved nodes = (node : TreeNode) → Contains nodes node → AreMoved node.patterns

  continued_moved : (p : TriplePat) (row : Row V) → IsPermutation (family p) (other p) → IsPermutation (continued interpretation n family p row) (continued interpretation n other p row)
  continued_moved p row is =
      IsPermutation-filter_map (merged interpretation.same row) (matches_of interpretation n p (family p)) (matches_of interpretation n p (other p))
      (IsPermutation-filter_map (match_of interpretation n p) (family p) (other p) is)

  ends_moved : (ps : List TriplePat) → AreMoved ps → (row : Row V) → IsPermutation (ends interpretation n family ps row) (ends interpretation n other ps row)
  ends_moved [] same row = IsPermutation-refl (Some row ∷ [])
  ends_moved (p ∷ ps) same row =
      dead_ends (flat_map (ends interpretation n family ps) (continued interpretation n family p row)) (flat_map (ends interpretation n other ps) (continued interpretation n other p row))
      (both_moved (ends interpretation n family ps) (ends interpretation n other ps) (continued interpretation n family p row) (continued interpretation n other p row)
      (λ longer. ends_moved ps (λ q at. same q (Contains-tail p ps q at)) longer) (continued_moved p row (same p (Contains-head p ps))))

  after_moved : (nodes : List TreeNode) (k : ℕ) (matched : ℕ → Bool) (row : Row V) →
      ((matched : ℕ → Bool) (row : Row V) → IsPermutation (rows_from interpretation n family nodes (suc k) matched row) (rows_from interpretation n other nodes (suc k) matched row)) →
      (end : Option (Row V)) → IsPermutation (after_end interpretation n family nodes k matched row end) (after_end interpretation n other nodes k matched row end)
  after_moved nodes k matched row go None = go matched row
  after_moved nodes k matched row go (Some longer) = go (with_node matched k) longer

  from_moved : (nodes : List TreeNode) → NodesMoved nodes → (k : ℕ) (matched : ℕ → Bool) (row : Row V) → IsPermutation (rows_from interpretation n family nodes k matched row) (rows_from interpretation n other nodes k matched row)
  from_moved [] same k matched row = IsPermutation-refl (row ∷ [])
  from_moved (node ∷ nodes) same k matched row =
      let rest = λ (later : TreeNode) (at : Contains nodes later). same later (Contains-tail node nodes later at) in
      let after = after_end interpretation n family nodes k matched row in
      let after' = after_end interpretation n other nodes k matched row in
      elim (has_parent matched node.parent) as (λ b. IsPermutation (if b then flat_map after (ends interpretation n family node.patterns row) else rows_from interpretation n family nodes (suc k) matched row)
      (if b then flat_map after' (ends interpretation n other node.patterns row) else rows_from interpretation n other nodes (suc k) matched row)) [
        | true ↦
            both_moved after after' (ends interpretation n family node.patterns row) (ends interpretation n other node.patterns row)
            (after_moved nodes k matched row (λ matched row. from_moved nodes rest (suc k) matched row)) (ends_moved node.patterns (same node (Contains-head node nodes)) row)
        | false ↦ from_moved nodes rest (suc k) matched row
      ]

  pub flat_moved : (tree : List TreeNode) → NodesMoved tree → IsPermutation (flat_rows_of interpretation n family tree) (flat_rows_of interpretation n other tree)
  flat_moved [] same = IsPermutation-refl []
  flat_moved (root ∷ nodes) same =
      both_moved (after_root interpretation n family nodes) (after_root interpretation n other nodes) (ends interpretation n family root.patterns (unbound V n)) (ends interpretation n other root.patterns (unbound V n))
      each (ends_moved root.patterns (same root (Contains-head root nodes)) (unbound V n)) where
        each : (end : Option (Row V)) → IsPermutation (after_root interpretation n family nodes end) (after_root interpretation n other nodes end)
        each None = IsPermutation-refl []
        each (Some row) = from_moved nodes (λ later at. same later (Contains-tail root nodes later at)) 1 root_alone row
