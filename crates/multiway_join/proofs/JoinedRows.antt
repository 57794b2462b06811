-- The rows of cells that the search lists are the flat rows over what is prepared.
use Rattle.std.proofs.Common.{◌≡◌, ℕ, ◌++◌, Bool, List, [], map, get_or, All, ◌∙◌, ap}
use Rattle.std.proofs.lemmas.List.Elements.{Contains-get_or}
use Rattle.std.proofs.lemmas.Option.{slice_get-get_or}
use Rattle.pattern_tree.specs.FlatTable.{FlatTable, row_of}
use Rattle.pattern_tree.specs.Tree.{TreeNode}
use Rattle.pruning_laws.specs.Shown.{shown}
use Rattle.tree_relations.specs.declared.prepared.Prepared.{Prepared}
use Rattle.tree_relations.specs.Prepared.{FitsTogether}
use Rattle.tree_relations.specs.Readings.{NumberTriple, as_numbers, lists_left, IsReading}
use Rattle.multiway_join.specs.FlatRows.{flat_rows_of}
use Rattle.multiway_join.specs.JoinOrder.{IsJoinOrder}
use Rattle.multiway_join.specs.Joined.{count_left, HaveTerms, AreFlatRows}
use Rattle.multiway_join.specs.steps.Search.{Lists, flat_cells, CanJoinNode}
use Rattle.multiway_join.proofs.CellRows.{continued_wide, flat_cells_are}
use Rattle.multiway_join.proofs.Matched.{continued_same}
use Rattle.multiway_join.proofs.Same.{order_alike, stands_alike}

module _ (p : Prepared) (n : ℕ) (tree ordered : List TreeNode) (fits : FitsTogether p) (order : IsJoinOrder (count_left p) tree ordered) (can : All (CanJoinNode p n) ordered) where
  joined_rows : (stands_for : ℕ → List ℕ → Bool) (triple : ℕ → ℕ × ℕ → NumberTriple) → IsReading p triple → HaveTerms stands_for triple p tree →
      map row_of (flat_cells p ordered n) ≡ flat_rows_of (as_numbers stands_for) n (shown triple (lists_left p)) ordered
  joined_rows stands_for triple reading terms =
      flat_cells_are p (as_numbers stands_for) n (shown triple (lists_left p)) ordered (λ k d low i q inside.
      let node = get_or ordered k d in
      let pattern = get_or node.patterns i q in
      let stands =
      stands_alike ordered tree (order_alike (count_left p) tree ordered order).from k pattern
      (record { node = node; stands = slice_get-get_or ordered k d low; among = Contains-get_or node.patterns i q inside }) in
      record {
        continues = λ row wide. continued_same p n stands_for triple pattern row fits reading (λ kind text pair is among. terms k pattern kind text pair stands is among) ((can k d low).patterns i q inside) wide;
        wide = λ row wide. continued_wide p n pattern row wide;
      })

  pub are_flat_rows : (old new : FlatTable) → old.rows ≡ [] → old.vars ≡ n → Lists (flat_cells p ordered n) old new → AreFlatRows p tree n new
  are_flat_rows old new none wide lists = record {
    vars = lists.vars ∙ wide;
    ordered = ordered;
    in_order = order;
    rows = λ stands_for triple reading terms. lists.rows ∙ ap (λ rows. rows ++ map row_of (flat_cells p ordered n)) none ∙ joined_rows stands_for triple reading terms;
  }
