-- Each row of a pattern has one cell for each variable.
use Rattle.std.proofs.Common.{◌≡◌, ℕ, Bool, true, false, List, [], ◌∷◌, fold, All, length, Option, Some, None, IfSome, if◌then◌else◌, not, zip, ◌∙◌, arith}
use Rattle.std.proofs.lemmas.List.{length-map, length-replicate, length-set}
use Rattle.std.proofs.lemmas.List.Elements.{All-nil, All-cons, All-append, All-filter}
use Rattle.std.proofs.lemmas.Slice.Zip.{length-zip}
use Rattle.std.specs.List.{filter_map, list_any}
use Rattle.alg_model.specs.declared.pattern.Place.{Place}
use Rattle.alg_model.specs.declared.pattern.Place.TheVariants as places
use Rattle.alg_model.specs.declared.pattern.TriplePat.{TriplePat}
use Rattle.alg_model.specs.Row.{Row, unbound, single, are_compatible, merge, merge_cells, merged, both_rows, join, without_partner, left_join}
use Rattle.alg_model.specs.Pattern.{Algebra, Bgp, Join, LeftJoin}
use Rattle.alg_model.proofs.Lists.{All-filter_map, All-flat_map}
use Rattle.alg_model.specs.Eval.{Interpretation, place_row, match_of, matches_of, eval}

-- the row has n cells
abbrev pub HasWidth : {V : Type 0} → ℕ → Row V → Type 0
HasWidth n row = length row ≡ n

-- the row that binds nothing has n cells
pub width-unbound : (V : Type 0) (n : ℕ) → HasWidth n (unbound V n)
width-unbound V n = length-replicate n None

module _ {V : Type 0} (n : ℕ) where
  -- so has a row that binds one variable
  pub width-single : (var : ℕ) (value : V) → HasWidth n (single n var value)
  width-single var value = length-set (unbound V n) var (Some value) ∙ width-unbound V n

  -- the merge of two rows of n cells has n cells
  pub width-merge : (r s : Row V) → HasWidth n r → HasWidth n s → HasWidth n (merge r s)
  width-merge r s hr hs =
      let mapped = length-map (zip r s) (λ cells. merge_cells cells.0 cells.1) in
      let zipped = length-zip r s in
      omega arith

  -- so has their merge where they are compatible
  pub width-merged : (same : V → V → Bool) (r s : Row V) → HasWidth n r → HasWidth n s → IfSome (merged same r s) (HasWidth n)
  width-merged same r s hr hs =
      elim (are_compatible same r s) as (λ b. IfSome (if b then Some (merge r s) else None) (HasWidth n)) [
        | true ↦ width-merge r s hr hs
        | false ↦ tt
      ]

  -- the same of two rows that may be there
  pub width-both_rows : (same : V → V → Bool) (r s : Option (Row V)) → IfSome r (HasWidth n) → IfSome s (HasWidth n) → IfSome (both_rows same r s) (HasWidth n)
  width-both_rows same None s hr hs = tt
  width-both_rows same (Some r) None hr hs = tt
  width-both_rows same (Some r) (Some s) hr hs = width-merged same r s hr hs

  -- the rows of a Join have n cells, where those of both sides have
  pub width-join : (same : V → V → Bool) (left right : List (Row V)) → All (HasWidth n) left → All (HasWidth n) right → All (HasWidth n) (join same left right)
  width-join same left right hl hr =
      All-flat_map (λ r. filter_map (merged same r) right) (HasWidth n) (HasWidth n) (λ r hr'. All-filter_map (merged same r) (HasWidth n) (HasWidth n) (λ s hs. width-merged same r s hr' hs) right hr) left hl

  -- so have those of a LeftJoin
  pub width-left_join : (same : V → V → Bool) (left right : List (Row V)) → All (HasWidth n) left → All (HasWidth n) right → All (HasWidth n) (left_join same left right)
  width-left_join same left right hl hr =
      All-append (HasWidth n) (join same left right) (without_partner same left right) (width-join same left right hl hr)
      (All-filter (λ r. not (list_any (are_compatible same r) right)) (HasWidth n) left hl)

module _ {V X : Type 0} (interpretation : Interpretation V X) (n : ℕ) where
  -- what a place matches gives a row of n cells
  width-place_row : (place : Place) (value : V) → IfSome (place_row interpretation n place value) (HasWidth n)
  width-place_row (places.Term text) value =
      elim (interpretation.stands_for value text) as (λ b. IfSome (if b then Some (unbound V n) else None) (HasWidth n)) [
        | true ↦ width-unbound V n
        | false ↦ tt
      ]
  width-place_row (places.Var var) value = width-single n var.0 value

  -- the matches of a triple pattern have n cells
  pub width-matches_of : (pattern : TriplePat) (triples : List X) → All (HasWidth n) (matches_of interpretation n pattern triples)
  width-matches_of pattern triples =
      let same = interpretation.same in
      let row : Place → V → Option (Row V) = place_row interpretation n in
      All-filter_map (match_of interpretation n pattern) (λ _. Unit {0}) (HasWidth n)
      (λ triple _. width-both_rows n same (both_rows same (row pattern.subject (interpretation.subject triple)) (row pattern.predicate (interpretation.predicate triple))) (row pattern.object (interpretation.object triple))
      (width-both_rows n same (row pattern.subject (interpretation.subject triple)) (row pattern.predicate (interpretation.predicate triple)) (width-place_row pattern.subject (interpretation.subject triple)) (width-place_row pattern.predicate (interpretation.predicate triple)))
      (width-place_row pattern.object (interpretation.object triple)))
      triples (λ _ _ _. tt)

  -- so have the rows of a list of triple patterns, from rows that have
  width-fold : (patterns : List TriplePat) (triples : List X) (rows : List (Row V)) → All (HasWidth n) rows → All (HasWidth n) (fold (λ rows pattern. join interpretation.same rows (matches_of interpretation n pattern triples)) rows patterns)
  width-fold [] triples rows h = h
  width-fold (pattern ∷ patterns) triples rows h =
      width-fold patterns triples (join interpretation.same rows (matches_of interpretation n pattern triples)) (width-join n interpretation.same rows (matches_of interpretation n pattern triples) h (width-matches_of pattern triples))

  -- the rows of a pattern have n cells
  pub width-eval : (pattern : Algebra) (triples : List X) → All (HasWidth n) (eval interpretation n pattern triples)
  width-eval (Bgp patterns) triples = width-fold patterns triples (unbound V n ∷ []) (All-cons (HasWidth n) (unbound V n) [] (width-unbound V n) (All-nil (HasWidth n)))
  width-eval (Join left right) triples = width-join n interpretation.same (eval interpretation n left triples) (eval interpretation n right triples) (width-eval left triples) (width-eval right triples)
  width-eval (LeftJoin left right) triples = width-left_join n interpretation.same (eval interpretation n left triples) (eval interpretation n right triples) (width-eval left triples) (width-eval right triples)
