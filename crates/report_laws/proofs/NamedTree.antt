-- The flat rows of a tree in join order, over names and over what the names name.
use Rattle.std.proofs.Common.{◌≡◌, ℕ, List, map, Some, sym, ◌∙◌, ap, subst}
use Rattle.std.specs.Prelude.{slice_get}
use Rattle.std.proofs.lemmas.Option.{slice_get-get_or}
use Rattle.alg_model.specs.declared.pattern.TriplePat.{TriplePat}
use Rattle.alg_model.specs.Eval.{Interpretation}
use Rattle.alg_model.specs.Row.{Row}
use Rattle.alg_model.specs.Solution.{TellsValues}
use Rattle.multiway_join.specs.FlatRows.{flat_rows_of}
use Rattle.multiway_join.specs.JoinOrder.{IsJoinOrder}
use Rattle.multiway_join.proofs.Same.{order_alike, stands_alike}
use Rattle.naming_laws.specs.Naming.{IsNaming, TellsApart, named_row, named_family}
use Rattle.naming_laws.proofs.Names.{IsTaken}
use Rattle.pattern_tree.specs.BestRows.{AreBest}
use Rattle.pattern_tree.specs.Solution.{Family}
use Rattle.pattern_tree.specs.Tree.{TreeNode}
use Rattle.report_laws.proofs.NamedBest.{best_named}
use Rattle.report_laws.proofs.NamedCells.{TellsNames}
use Rattle.report_laws.proofs.NamedFlatRows.{NodesGiveOnly, flat_named, flat_only}

module _ {W Y V X : Type 0} (names : Interpretation W Y) (interpretation : Interpretation V X) (value : W → V) (triple : Y → X) (n : ℕ) (tree : List TreeNode) (family : Family Y) (counts : TriplePat → ℕ) (ordered : List TreeNode)
    (tells : TellsValues names) (tells' : TellsValues interpretation) (naming : IsNaming names interpretation value triple) (apart : TellsApart names value tree family) (order : IsJoinOrder counts tree ordered) where
  -- a name that a triple of the tree's lists gives the variable
  abbrev Takes : ℕ → W → Type 0
  Takes var name = IsTaken names value n tree family var name

  taken_one : TellsNames value Takes
  taken_one var v w a b same = apart.one a.node b.node a.pattern b.pattern a.item b.item var v w a.stands b.stands a.among b.among a.takes b.takes same

  nodes_give : NodesGiveOnly names interpretation value triple naming tells tells' n Takes taken_one family ordered
  nodes_give node at pattern there y among var name takes =
      let place : slice_get ordered at.0 ≡ Some node = slice_get-get_or ordered at.0 node at.1 ∙ ap (λ node. Some node) at.2 in
      let alike = order_alike counts tree ordered order in
      record {
        node = at.0;
        pattern = pattern;
        item = y;
        stands = stands_alike ordered tree alike.from at.0 pattern (record { node = node; stands = place; among = there });
        among = among;
        takes = takes;
      }

  pub flat_rows_named : flat_rows_of interpretation n (named_family triple family) ordered ≡ map (named_row value) (flat_rows_of names n family ordered)
  flat_rows_named = flat_named names interpretation value triple naming tells tells' n Takes taken_one family ordered nodes_give

  pub best_rows_named : (best : List (Row W)) → AreBest (flat_rows_of names n family ordered) best → AreBest (flat_rows_of interpretation n (named_family triple family) ordered) (map (named_row value) best)
  best_rows_named best are =
      subst (λ rows. AreBest rows (map (named_row value) best)) (sym flat_rows_named)
      (best_named value Takes taken_one (flat_rows_of names n family ordered) best (flat_only names interpretation value triple naming tells tells' n Takes taken_one family ordered nodes_give) are)
