-- Which rows are marked, group by group.
use Rattle.std.proofs.Common.{◌≡◌, ◌≢◌, ◌↔◌, ◌⊎◌, inl, inr, ℕ, zero, suc, ◌+◌, ◌<◌, ◌≤◌, List, [], ◌∷◌, length, All, Any, refl, arith, sym, ◌∙◌, ap, subst, slice_index_or}
use Rattle.std.proofs.lemmas.Bool.{cases_lt, cases_order}
use Rattle.std.proofs.lemmas.List.{get_or_default}
use Rattle.std.specs.Int.Bits.{bit_and}
use Rattle.std.specs.List.Sorted.{IsStrictlySortedBy}
use Rattle.null_best.specs.declared.groups.Group.{Group}
use Rattle.null_best.specs.steps.Cuts.{cut_to, Improves}
use Rattle.null_best.specs.steps.Groups.{row_at, IsIn, IsGroup, AreGroups}
use Rattle.null_best.specs.steps.Keys.{bound_set, key_cmp}
use Rattle.null_best.specs.steps.Marks.{HaveWidth, front_of, group_at, IsImproved, IsImprovedAcross, IsImprovedBelow, IsImprovedBy, IsImprovedFrom}
use Rattle.null_best.specs.steps.Searches.{Matches}
use Rattle.null_best.proofs.Cuts.{improves-cut, cut-improved, part-improved, other-improved}
use Rattle.null_best.proofs.Orders.{match-place}

module _ (keys : List (List ℕ)) where
  -- a row of one group improves that of another exactly where that is the cut of the first
  module _ (large small : Group) (widths : HaveWidth keys) (is_large : IsGroup keys large) (is_small : IsGroup keys small) where
    place-small : (k : ℕ) → IsIn small k → k < length keys
    place-small k at = omega (arith, at.below, is_small.binds.within)

    improved-matches : (i k : ℕ) → IsIn large i → IsIn small k → Improves (row_at keys i) (row_at keys k) → Matches keys small (cut_to small.vars (row_at keys i)) k
    improved-matches i k from at improves =
        let same : length (row_at keys i) ≡ length (row_at keys k) = widths.same i k (omega (arith, from.below, is_large.binds.within)) (place-small k at) in
        let set : bound_set (row_at keys k) ≡ small.vars = is_small.binds.same k at.from at.below in
        record {
          place = at;
          cells_are = sym (ap (λ s. cut_to s (row_at keys i)) (sym set) ∙ cut-improved (row_at keys i) (row_at keys k) same improves);
        }

    matches-improved : small.vars ≢ large.vars → (i k : ℕ) → IsIn large i → Matches keys small (cut_to small.vars (row_at keys i)) k → Improves (row_at keys i) (row_at keys k)
    matches-improved other i k from match =
        let set : bound_set (row_at keys k) ≡ small.vars = is_small.binds.same k match.place.from match.place.below in
        let whole : bound_set (row_at keys i) ≡ large.vars = is_large.binds.same i from.from from.below in
        let differs : cut_to small.vars (row_at keys i) ≢ row_at keys i = λ same. other (sym set ∙ ap bound_set (match.cells_are ∙ same) ∙ whole) in
        subst (Improves (row_at keys i)) (sym match.cells_are) (improves-cut small.vars (row_at keys i) differs)

    -- one row of the group more
    pub across-step : small.vars ≢ large.vars → (i : ℕ) → IsIn large i →
        (k : ℕ) → IsImprovedAcross keys (front_of large (i + 1)) small k ↔ (IsImprovedAcross keys (front_of large i) small k ⊎ Matches keys small (cut_to small.vars (row_at keys i)) k)
    across-step other i from k = (forth, back) where
      forth : IsImprovedAcross keys (front_of large (i + 1)) small k → IsImprovedAcross keys (front_of large i) small k ⊎ Matches keys small (cut_to small.vars (row_at keys i)) k
      forth improved = elim (cases_lt improved.by i) [
        | inl lt ↦ inl (record { by = improved.by; from = record { from = improved.from.from; below = lt }; place = improved.place; improves = improved.improves })
        | inr le ↦
            let same : improved.by ≡ i = omega (arith, le, improved.from.below) in
            inr (improved-matches i k from improved.place (subst (λ j. Improves (row_at keys j) (row_at keys k)) same improved.improves))
      ]

      back : IsImprovedAcross keys (front_of large i) small k ⊎ Matches keys small (cut_to small.vars (row_at keys i)) k → IsImprovedAcross keys (front_of large (i + 1)) small k
      back (inl improved) = record { by = improved.by; from = record { from = improved.from.from; below = omega (arith, improved.from.below) }; place = improved.place; improves = improved.improves }
      back (inr match) = record { by = i; from = record { from = from.from; below = omega arith }; place = match.place; improves = matches-improved other i k from match }

    -- rows of a group whose set is no part of the other's are not improved
    pub across-none : ((bit_and small.vars large.vars ≡ small.vars) × (small.vars ≢ large.vars) → ⊥) → (k : ℕ) → ¬ IsImprovedAcross keys large small k
    across-none none k improved =
        let set : bound_set (row_at keys k) ≡ small.vars = is_small.binds.same k improved.place.from improved.place.below in
        let whole : bound_set (row_at keys improved.by) ≡ large.vars = is_large.binds.same improved.by improved.from.from improved.from.below in
        let part = part-improved (row_at keys improved.by) (row_at keys k) improved.improves in
        let other = other-improved (row_at keys improved.by) (row_at keys k) improved.improves in
        none (
          ap (λ s. bit_and s large.vars) (sym set) ∙ ap (bit_and (bound_set (row_at keys k))) (sym whole) ∙ part ∙ set,
          λ same. other (set ∙ same ∙ sym whole),
        )

  -- no row of an empty front improves any
  pub across-start : (large small : Group) (k : ℕ) → ¬ IsImprovedAcross keys (front_of large large.start) small k
  across-start large small k improved = let h = improved.from.from in let lt = improved.from.below in omega arith

  -- one group more whose rows may be improved
  pub below-start : (large : Group) (groups : List Group) (k : ℕ) → ¬ IsImprovedBelow keys large groups 0 k
  below-start large groups k improved = let lt = improved.below in omega arith

  pub below-step : (large : Group) (groups : List Group) (n k : ℕ) → IsImprovedBelow keys large groups (n + 1) k ↔ (IsImprovedBelow keys large groups n k ⊎ IsImprovedAcross keys large (group_at groups n) k)
  below-step large groups n k = (
    λ improved. elim (cases_lt improved.at n) [
      | inl lt ↦ inl (record { at = improved.at; below = lt; improved = improved.improved })
      | inr le ↦
          let same : improved.at ≡ n = omega (arith, le, improved.below) in
          inr (subst (λ j. IsImprovedAcross keys large (group_at groups j) k) same improved.improved)
    ],
    λ either. elim either [
      | inl improved ↦ record { at = improved.at; below = omega (arith, improved.below); improved = improved.improved }
      | inr improved ↦ record { at = n; below = omega arith; improved = improved }
    ],
  )

  pub below-all : (large : Group) (groups : List Group) → AreGroups keys groups → (k : ℕ) → IsImprovedBelow keys large groups (length groups) k ↔ IsImprovedBy keys large k
  below-all large groups are k = (forth, back) where
    forth : IsImprovedBelow keys large groups (length groups) k → IsImprovedBy keys large k
    forth improved =
        let is = are.each improved.at (record { vars = 0; start = 0; end = 0 }) improved.below in
        record {
          by = improved.improved.by;
          from = improved.improved.from;
          exists = omega (arith, improved.improved.place.below, is.binds.within);
          improves = improved.improved.improves;
        }

    back : IsImprovedBy keys large k → IsImprovedBelow keys large groups (length groups) k
    back improved =
        let has = are.covered k improved.exists in
        let same : group_at groups has.0 ≡ has.1 = get_or_default groups has.0 (record { vars = 0; start = 0; end = 0 }) has.1 has.2 ∙ has.3 in
        record {
          at = has.0;
          below = has.2;
          improved = record { by = improved.by; from = improved.from; place = subst (λ group. IsIn group k) (sym same) has.4; improves = improved.improves };
        }

  -- one group more whose rows improve
  pub from-start : (groups : List Group) (k : ℕ) → ¬ IsImprovedFrom keys groups 0 k
  from-start groups k improved = let lt = improved.below in omega arith

  pub from-step : (groups : List Group) (n k : ℕ) → IsImprovedFrom keys groups (n + 1) k ↔ (IsImprovedFrom keys groups n k ⊎ IsImprovedBy keys (group_at groups n) k)
  from-step groups n k = (
    λ improved. elim (cases_lt improved.at n) [
      | inl lt ↦ inl (record { at = improved.at; below = lt; improved = improved.improved })
      | inr le ↦
          let same : improved.at ≡ n = omega (arith, le, improved.below) in
          inr (subst (λ j. IsImprovedBy keys (group_at groups j) k) same improved.improved)
    ],
    λ either. elim either [
      | inl improved ↦ record { at = improved.at; below = omega (arith, improved.below); improved = improved.improved }
      | inr improved ↦ record { at = n; below = omega arith; improved = improved }
    ],
  )

  pub from-all : (groups : List Group) → AreGroups keys groups → (k : ℕ) → IsImprovedFrom keys groups (length groups) k ↔ IsImproved keys k
  from-all groups are k = (forth, back) where
    forth : IsImprovedFrom keys groups (length groups) k → IsImproved keys k
    forth improved =
        let is = are.each improved.at (record { vars = 0; start = 0; end = 0 }) improved.below in
        record {
          by = improved.improved.by;
          listed = omega (arith, improved.improved.from.below, is.binds.within);
          exists = improved.improved.exists;
          improves = improved.improved.improves;
        }

    back : IsImproved keys k → IsImprovedFrom keys groups (length groups) k
    back improved =
        let has = are.covered improved.by improved.listed in
        let same : group_at groups has.0 ≡ has.1 = get_or_default groups has.0 (record { vars = 0; start = 0; end = 0 }) has.1 has.2 ∙ has.3 in
        record {
          at = has.0;
          below = has.2;
          improved = record { by = improved.by; from = subst (λ group. IsIn group improved.by) (sym same) has.4; exists = improved.exists; improves = improved.improves };
        }
