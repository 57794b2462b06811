-- A pattern has one report over a graph.
use Rattle.std.proofs.Common.{◌≡◌, ℕ, Bool, List, [], length, Contains, refl, sym, ◌∙◌, subst}
use Rattle.std.specs.Prelude.{IsPermutation}
use Rattle.std.proofs.lemmas.List.Sorted.{Contains-permutation, IsPermutation-sym, length_permutation}
use Rattle.bm_term.specs.declared.triple.Triple.{Triple}
use Rattle.alg_model.specs.declared.pattern.TriplePat.{TriplePat}
use Rattle.alg_model.specs.Eval.{as_terms}
use Rattle.alg_model.specs.Limits.{PatternKeepsLimits}
use Rattle.alg_model.specs.Pattern.{Algebra}
use Rattle.alg_model.specs.Row.{Row}
use Rattle.engine_laws.proofs.Bags.{once, one_bag}
use Rattle.multiway_join.specs.FlatRows.{flat_rows_of}
use Rattle.multiway_join.proofs.OneOrder.{one_order}
use Rattle.multiway_join.proofs.Same.{order_alike, stands_alike}
use Rattle.pattern_tree.specs.BestRows.{AreBest}
use Rattle.pattern_tree.specs.Standing.{StandsAt}
use Rattle.pattern_tree.specs.Tree.{TreeNode, tree_of}
use Rattle.report_laws.specs.Report.{IsReport}
use Rattle.report_laws.proofs.Listed.{node_stands, one_lengths}
use Rattle.report_laws.proofs.NamedCells.{one_truth}
use Rattle.report_laws.proofs.SameRows.{same_orders, NodesMoved, flat_moved}

-- rows in another order have as many best rows
module _ {V : Type 0} (rows others : List (Row V)) (moved : IsPermutation rows others) where
  back : (row : Row V) → Contains others row → Contains rows row
  back row at = Contains-permutation others rows row (IsPermutation-sym rows others moved) at

  forth : (row : Row V) → Contains rows row → Contains others row
  forth row at = Contains-permutation rows others row moved at

  pub best_alike : (best best' : List (Row V)) → AreBest rows best → AreBest others best' → IsPermutation best best'
  best_alike best best' are are' = one_bag best best' (once best are.once) (once best' are'.once) (λ row. (
    λ at.
        let is = (are.exactly row).0 at in
        (are'.exactly row).1 (forth row is.0, λ extended. is.1 (record { other = extended.other; listed = back extended.other extended.listed; extends = extended.extends; more = extended.more })),
    λ at.
        let is = (are'.exactly row).0 at in
        (are.exactly row).1 (back row is.0, λ extended. is.1 (record { other = extended.other; listed = forth extended.other extended.listed; extends = extended.extends; more = extended.more })),
  ))

module _ (n : ℕ) (pattern : Algebra) (graph : List Triple) (simple simple' : Bool) (before before' after after' : List ℕ) (listed listed' kept kept' : ℕ) (keeps : PatternKeepsLimits n pattern)
    (a : IsReport n pattern graph simple before after listed kept) (b : IsReport n pattern graph simple' before' after' listed' kept') where
  abbrev tree : List TreeNode
  tree = tree_of pattern

  left_moved : (k : ℕ) (part : TriplePat) → StandsAt tree k part → IsPermutation (a.left part) (b.left part)
  left_moved k part stands = one_bag (a.left part) (b.left part) (once (a.left part) (a.once k part stands)) (once (b.left part) (b.once k part stands)) (λ t. (
    b.greatest.greatest a.left a.greatest.within a.greatest.consistent k part t stands,
    a.greatest.greatest b.left b.greatest.within b.greatest.consistent k part t stands,
  ))

  as_many : (k : ℕ) (part : TriplePat) → StandsAt tree k part → length (a.left part) ≡ length (b.left part)
  as_many k part stands = sym (length_permutation (a.left part) (b.left part) (left_moved k part stands))

  one_ordered : a.ordered ≡ b.ordered
  one_ordered =
      one_order (λ part. length (b.left part)) n pattern a.ordered b.ordered keeps
      (same_orders (λ part. length (a.left part)) (λ part. length (b.left part)) [] tree a.ordered (λ node part at among. (let stands = node_stands tree node part at among in as_many stands.0 part stands.1)) a.order)
      b.order

  nodes_moved : NodesMoved as_terms n a.left b.left a.ordered
  nodes_moved node at part among =
      let stands = node_stands a.ordered node part at among in
      let alike = order_alike (λ part. length (a.left part)) tree a.ordered a.order in
      left_moved stands.0 part (stands_alike a.ordered tree alike.from stands.0 part stands.1)

  rows_moved : IsPermutation (flat_rows_of as_terms n a.left a.ordered) (flat_rows_of as_terms n b.left b.ordered)
  rows_moved =
      subst (λ ordered. IsPermutation (flat_rows_of as_terms n a.left a.ordered) (flat_rows_of as_terms n b.left ordered)) one_ordered (flat_moved as_terms n a.left b.left a.ordered nodes_moved)

  pub one_report : (simple ≡ simple') × (before ≡ before') × (after ≡ after') × (listed ≡ listed') × (kept ≡ kept')
  one_report = (
    one_truth simple simple' (λ is. b.shape.1 (a.shape.0 is)) (λ is. a.shape.1 (b.shape.0 is)),
    one_lengths n pattern _ _ before before' keeps (λ k part stands. refl) a.matched b.matched,
    one_lengths n pattern a.left b.left after after' keeps as_many a.pruned b.pruned,
    a.flat ∙ sym (length_permutation _ _ rows_moved) ∙ sym b.flat,
    a.counted ∙ sym (length_permutation a.best b.best (best_alike _ _ rows_moved a.best b.best a.chosen b.chosen)) ∙ sym b.counted,
  )
