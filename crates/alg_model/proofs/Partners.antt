-- Rows that have a partner on the other side of a LeftJoin, and rows that have none.
use Rattle.std.proofs.Common.{◌≡◌, ◌≢◌, Bool, true, false, not, ◌||◌, ◌++◌, List, [], ◌∷◌, length, Some, None, if◌then◌else◌, refl, ap, arith}
use Rattle.std.proofs.lemmas.List.{length-append}
use Rattle.std.specs.List.{list_any, filter_map, cons_option}
use Rattle.alg_model.specs.Row.{Row, are_compatible, merge, merged, without_partner}

module _ {V : Type 0} (test : V → V → Bool) (r : Row V) where
  -- a row that is merged with no row is compatible with none
  none_compatible : (right : List (Row V)) → length (filter_map (merged test r) right) ≡ 0 → list_any (are_compatible test r) right ≡ false
  none_compatible [] h = refl
  none_compatible (s ∷ right) h =
      elim (are_compatible test r s) as (λ b. length (cons_option (if b then Some (merge r s) else None) (filter_map (merged test r) right)) ≡ 0 → (b || list_any (are_compatible test r) right) ≡ false) [
        | true ↦ λ h. absurd (omega arith)
        | false ↦ λ h. none_compatible right h
      ] h

  -- and a row that is merged with a row is compatible with one
  some_compatible : (right : List (Row V)) → length (filter_map (merged test r) right) ≢ 0 → list_any (are_compatible test r) right ≡ true
  some_compatible [] h = absurd (h refl)
  some_compatible (s ∷ right) h =
      elim (are_compatible test r s) as (λ b. length (cons_option (if b then Some (merge r s) else None) (filter_map (merged test r) right)) ≢ 0 → (b || list_any (are_compatible test r) right) ≡ true) [
        | true ↦ λ h. refl
        | false ↦ λ h. some_compatible right h
      ] h

  -- so a row has no partner where the Join with it adds no row
  pub without_partner-none : (rows more right : List (Row V)) → more ≡ rows ++ filter_map (merged test r) right → length more ≡ length rows → without_partner test (r ∷ []) right ≡ r ∷ []
  without_partner-none rows more right is same =
      let empty : length (filter_map (merged test r) right) ≡ 0 = omega (arith, ap length is, length-append rows (filter_map (merged test r) right)) in
      ap (λ b. if not b then r ∷ [] else []) (none_compatible right empty)

  -- and has one where it adds some
  pub without_partner-some : (rows more right : List (Row V)) → more ≡ rows ++ filter_map (merged test r) right → length more ≢ length rows → without_partner test (r ∷ []) right ≡ []
  without_partner-some rows more right is differ =
      let some : length (filter_map (merged test r) right) ≢ 0 = λ e. differ (omega (arith, ap length is, length-append rows (filter_map (merged test r) right))) in
      ap (λ b. if not b then r ∷ [] else []) (some_compatible right some)
