-- What fits together can be counted.
use Rattle.std.proofs.Common.{◌≡◌, ℕ, ◌≤◌, ◌^◌, List, [], ◌∷◌, length, filter, Bool, true, false, cond, Contains, Some, slice_get, subst, arith}
use Rattle.std.proofs.lemmas.List.Elements.{All-contains, Contains-get_or, Contains-append_right}
use Rattle.std.proofs.lemmas.Option.{slice_get_within, get_or_from_slice_get}
use Rattle.alg_model.proofs.Lists.{Contains-flat_map}
use Rattle.bm_term.proofs.Elements.{Contains-head, Contains-tail}
use Rattle.cube_slices.specs.Lines.{pairs_of}
use Rattle.mask_pool.specs.Mask.{Stretch}
use Rattle.mask_pool.specs.Region.{words_of}
use Rattle.pattern_rel.specs.Folds.{IsUsable}
use Rattle.pattern_rel.specs.Left.{pairs_left, is_left}
use Rattle.tree_relations.specs.declared.prepared.Entry.{Entry}
use Rattle.tree_relations.specs.declared.prepared.Prepared.{Prepared}
use Rattle.tree_relations.specs.Prepared.{FitsTogether, FitsEntry, masks_of}
use Rattle.match_relations.specs.steps.Masks.{masks_in}

fewer : {X : Type 0} (p : X → Bool) (xs : List X) → length (filter p xs) ≤ length xs
fewer p [] = omega arith
fewer p (x ∷ xs) = by (p x) (fewer p xs)
  where
    by : (b : Bool) → length (filter p xs) ≤ length xs → length (cond b (x ∷ filter p xs) (filter p xs)) ≤ length (x ∷ xs)
    by true rest = omega arith
    by false rest = omega arith

module _ (p : Prepared) (fits : FitsTogether p) (i : ℕ) (e : Entry) (at : slice_get p.entries i ≡ Some e) where
  there : Contains p.entries e
  there = subst (Contains p.entries) (get_or_from_slice_get p.entries i e e at) (Contains-get_or p.entries i e (slice_get_within p.entries i e at))

  usable : (m : Stretch) → Contains (e.rel.first ∷ e.rel.second ∷ []) m → IsUsable p.pool m
  usable m own = All-contains (IsUsable p.pool) (masks_of p) m fits.usable (Contains-append_right p.work (masks_in p.entries) m (Contains-flat_map (λ (e : Entry). e.rel.first ∷ e.rel.second ∷ []) p.entries e m there own))

  pub first_usable : IsUsable p.pool e.rel.first
  first_usable = usable e.rel.first (Contains-head e.rel.first (e.rel.second ∷ []))

  pub second_usable : IsUsable p.pool e.rel.second
  second_usable = usable e.rel.second (Contains-tail e.rel.first (e.rel.second ∷ []) e.rel.second (Contains-head e.rel.second []))

  pub few_left : length (pairs_left p.pool e.rel) ≤ 2 ^ 23
  few_left = omega (arith, fewer (is_left (words_of p.pool e.rel.first) (words_of p.pool e.rel.second)) (pairs_of e.rel.lines), (All-contains (FitsEntry p) p.entries e fits.entries there).few)
