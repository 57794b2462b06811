-- What a step leaves that narrows one mask of a relation.
use Rattle.std.proofs.Common.{◌≡◌, ◌≢◌, ◌↔◌, ℕ, ◌≤◌, List, [], ◌∷◌, length, filter, Bool, true, inl, inr, Option, Some, None, is_some, refl, ap, ◌∙◌, arith}
use Rattle.std.specs.Prelude.{slice_get, Contains, IsTrue}
use Rattle.std.specs.List.{find}
use Rattle.std.specs.Option.{option_map}
use Rattle.std.proofs.lemmas.Bool.{both_ways, cases_Bool}
use Rattle.row_lanes.specs.Words.{Has}
use Rattle.mask_pool.specs.Mask.{DoNotOverlap}
use Rattle.mask_pool.specs.Region.{Region, words_of}
use Rattle.cube_slices.specs.Lines.{pairs_of}
use Rattle.pattern_rel.specs.Left.{Relation, pairs_left, is_in, is_left, own_of}
use Rattle.pattern_rel.specs.Bounds.{as_pair, is_wanted}
use Rattle.pattern_rel.specs.declared.bound.Pair.{Pair}
use Rattle.pattern_rel.specs.Folds.{IsUsable, Keeps}
use Rattle.pattern_rel.specs.declared.side.Side.{Side}
use Rattle.pattern_rel.specs.declared.side.Side.TheVariants.{First, Second}
use Rattle.pattern_rel.proofs.PairLaws.{Contains-front, none_there, is_in-has}
use Rattle.tree_relations.specs.declared.prepared.PlaceKind.{PlaceKind}
use Rattle.tree_relations.specs.declared.prepared.Entry.{Entry}
use Rattle.tree_relations.specs.declared.prepared.Prepared.{Prepared}
use Rattle.tree_relations.specs.Prepared.{FitsTogether, masks_of}
use Rattle.tree_relations.specs.Readings.{lists_left}
use Rattle.mask_steps.specs.Held.{HasValue, HasLayoutOf}
use Rattle.mask_steps.specs.Measure.{Narrows}
use Rattle.mask_steps.proofs.PlaceLaws.{StayBut, first_place, second_place, first_at, second_at, usable_at, apart_at, stay_one, together_moved}
use Rattle.mask_steps.proofs.HeldLaws.{lists_by, left_same, first_stays, second_stays, values_stay}
use Rattle.mask_steps.proofs.MeasureLaws.{narrowed_within, first_narrows, second_narrows}

-- no pair is left where the first mask has no number
pub none_left : (q : Region) (rel : Relation) → ((n : ℕ) → Has (words_of q rel.first) n → ⊥) → pairs_left q rel ≡ []
none_left q rel none = go (pairs_of rel.lines)
  where
    go : (ts : List (ℕ × ℕ)) → filter (is_left (words_of q rel.first) (words_of q rel.second)) ts ≡ []
    go [] = refl
    go (t ∷ ts) = elim (cases_Bool (is_in (words_of q rel.first) t.0)) [
      | inl has ↦ absurd (none t.0 ((is_in-has (words_of q rel.first) t.0).0 has))
      | inr fails ↦ rw fails (go ts)
    ]

-- the first pair of all, if there is one
pub some_left : (ts : List (ℕ × ℕ)) (found : Option Pair) (some : Bool) → found ≡ option_map as_pair (find (is_wanted (record { first = None; second = None }) None) ts) → some ≡ is_some found → IsTrue some ↔ ((t : ℕ × ℕ) × Contains ts t)
some_left [] found some is decides = (λ h. absurd (both_ways some (decides ∙ ap (λ (o : Option Pair). is_some o) is) h), λ h. absurd (none_there h.0 h.1))
some_left (t ∷ ts) found some is decides = (λ h. (t, (Contains-front t ts t).1 (inl refl)), λ h. decides ∙ ap (λ (o : Option Pair). is_some o) is)

-- a list is what it is where each passes
pub in_itself : (ts : List (ℕ × ℕ)) → ts ≡ filter (λ t. true) ts
in_itself [] = refl
in_itself (t ∷ ts) = ap (λ (us : List (ℕ × ℕ)). t ∷ us) (in_itself ts)

-- the place of a relation's mask among all masks
abbrev pub own_place : Prepared → ℕ → Side → ℕ
own_place p i First = first_place p i
own_place p i Second = second_place p i

module _ (p : Prepared) (fits : FitsTogether p) (i : ℕ) (e : Entry) (at : slice_get p.entries i ≡ Some e) where
  own_at : (side : Side) → slice_get (masks_of p) (own_place p i side) ≡ Some (own_of side e.rel)
  own_at First = first_at p i e at
  own_at Second = second_at p i e at

  pub own_usable : (side : Side) → IsUsable p.pool (own_of side e.rel)
  own_usable side = usable_at p fits (own_place p i side) (own_of side e.rel) (own_at side)

  -- the two masks of a relation lie apart
  pub sides_apart : DoNotOverlap e.rel.first e.rel.second
  sides_apart = apart_at p fits (first_place p i) (second_place p i) e.rel.first e.rel.second (first_at p i e at) (second_at p i e at) (omega arith)

  module _ (side : Side) (q : Region) (keeps : Keeps p.pool q (own_of side e.rel)) where
    own_stay : StayBut p q (own_place p i side) (own_place p i side)
    own_stay = stay_one p q fits (own_place p i side) (own_of side e.rel) (own_at side) keeps

    pub own_layout : HasLayoutOf p (record p { pool = q })
    own_layout = record { same = refl; fits = together_moved p q fits keeps.live }

  -- no other list changes
  pub others_stay : (side : Side) (q : Region) → Keeps p.pool q (own_of side e.rel) → (j : ℕ) → j ≢ i → lists_left (record p { pool = q }) j ≡ lists_left p j
  others_stay First q keeps j differ =
      let stay = own_stay First q keeps in
      lists_by p q j (λ d there. left_same p.pool q d.rel
      (first_stays p q (first_place p i) (first_place p i) stay j d there (omega arith) (omega arith))
      (second_stays p q (first_place p i) (first_place p i) stay j d there (omega arith) (omega arith)))
  others_stay Second q keeps j differ =
      let stay = own_stay Second q keeps in
      lists_by p q j (λ d there. left_same p.pool q d.rel
      (first_stays p q (second_place p i) (second_place p i) stay j d there (omega arith) (omega arith))
      (second_stays p q (second_place p i) (second_place p i) stay j d there (omega arith) (omega arith)))

  -- the measure is no more
  pub own_narrows : (side : Side) (q : Region) → Keeps p.pool q (own_of side e.rel) → ((n : ℕ) → Has (words_of q (own_of side e.rel)) n → Has (words_of p.pool (own_of side e.rel)) n) → Narrows p (record p { pool = q })
  own_narrows First q keeps less =
      let live = (own_usable First).live in
      first_narrows p q i e at (own_stay First q keeps) (narrowed_within p q e.rel.first live (keeps.live e.rel.first live) less)
  own_narrows Second q keeps less =
      let live = (own_usable Second).live in
      second_narrows p q i e at (own_stay Second q keeps) (narrowed_within p q e.rel.second live (keeps.live e.rel.second live) less)

  own_past : (side : Side) → length p.work ≤ own_place p i side
  own_past First = omega arith
  own_past Second = omega arith

  -- no variable's values change
  pub own_values : (side : Side) (q : Region) → Keeps p.pool q (own_of side e.rel) → (kinds : List (Option PlaceKind)) (v x : ℕ) → HasValue (record p { pool = q }) kinds v x ↔ HasValue p kinds v x
  own_values side q keeps kinds v x =
      let past = own_past side in
      values_stay p q (own_place p i side) (own_place p i side) (own_stay side q keeps) kinds kinds v x refl (λ within. (omega arith, omega arith))
