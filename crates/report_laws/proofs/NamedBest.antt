-- The best of rows of names, named, are the best of the rows that they name.
use Rattle.std.proofs.Common.{ℕ, List, map, Contains, sym, subst}
use Rattle.alg_model.specs.Row.{Row, Extends, BindsMore}
use Rattle.naming_laws.specs.Naming.{named_row}
use Rattle.pattern_tree.specs.BestRows.{IsExtended, AreBest}
use Rattle.pattern_tree.proofs.Pruning.{Contains-map, map-Contains}
use Rattle.report_laws.proofs.NamedCells.{BindsOnly, TellsNames, extends_named, named_extends, more_named, named_more, named_one}
use Rattle.report_laws.proofs.Once.{map_once}

module _ {W V : Type 0} (value : W → V) (Takes : ℕ → W → Type 0) (one : TellsNames value Takes) (rows best : List (Row W)) (only : (row : Row W) → Contains rows row → BindsOnly Takes row) where
  extended_named : (row : Row W) → IsExtended rows row → IsExtended (map (named_row value) rows) (named_row value row)
  extended_named row extended = record {
    other = named_row value extended.other;
    listed = Contains-map (named_row value) rows extended.other extended.listed;
    extends = extends_named value Takes one row extended.other extended.extends;
    more = more_named value Takes one row extended.other extended.more;
  }

  named_extended : (row : Row W) → Contains rows row → IsExtended (map (named_row value) rows) (named_row value row) → IsExtended rows row
  named_extended row at extended =
      let from = map-Contains (named_row value) rows extended.other extended.listed in
      record {
        other = from.0;
        listed = from.1;
        extends = named_extends value Takes one row from.0 (only row at) (only from.0 from.1) (subst (λ other. Extends other (named_row value row)) (sym from.2) extended.extends);
        more = named_more value Takes one row from.0 (subst (λ other. BindsMore other (named_row value row)) (sym from.2) extended.more);
      }

  pub best_named : AreBest rows best → AreBest (map (named_row value) rows) (map (named_row value) best)
  best_named are = record {
    exactly = λ row. (
      λ at.
          let from = map-Contains (named_row value) best row at in
          let is = (are.exactly from.0).0 from.1 in (
            subst (Contains (map (named_row value) rows)) from.2 (Contains-map (named_row value) rows from.0 is.0),
            λ extended. is.1 (named_extended from.0 is.0 (subst (IsExtended (map (named_row value) rows)) (sym from.2) extended)),
          ),
      λ is.
          let from = map-Contains (named_row value) rows row is.0 in
          subst (Contains (map (named_row value) best)) from.2 (Contains-map (named_row value) best from.0 ((are.exactly from.0).1
          (from.1, λ extended. is.1 (subst (IsExtended (map (named_row value) rows)) from.2 (extended_named from.0 extended))))),
    );
    once = map_once (named_row value) best are.once (λ r s at at'. named_one value Takes one r s (only r ((are.exactly r).0 at).0) (only s ((are.exactly s).0 at').0));
  }
