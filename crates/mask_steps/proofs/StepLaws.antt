-- Each step on a mask is a reduction, by the values that numbers stand for.
use Rattle.std.proofs.Common.{◌≡◌, ◌↔◌, ℕ, ◌<◌, List, filter, Bool, true, Option, Some, None, refl, sym, ap, subst, ◌∙◌}
use Rattle.std.specs.Prelude.{slice_get, Contains}
use Rattle.std.proofs.lemmas.Bool.{and_parts, and_from}
use Rattle.std.proofs.lemmas.Option.{same_Some}
use Rattle.row_lanes.specs.Words.{Has}
use Rattle.mask_pool.specs.Mask.{Stretch}
use Rattle.mask_pool.specs.Region.{Region, words_of}
use Rattle.pattern_rel.specs.Left.{pairs_left, is_in, IsAtSide, number_at}
use Rattle.pattern_rel.specs.Folds.{IsBelow, is_below, is_kept}
use Rattle.pattern_rel.specs.declared.side.Side.{Side}
use Rattle.pattern_rel.proofs.PairLaws.{Contains-filter, is_in-has}
use Rattle.tree_relations.specs.declared.prepared.PlaceKind.{PlaceKind}
use Rattle.tree_relations.specs.declared.prepared.Entry.{Entry}
use Rattle.tree_relations.specs.declared.prepared.Prepared.{Prepared}
use Rattle.tree_relations.specs.Prepared.{count_of}
use Rattle.tree_relations.specs.Readings.{value_of, EntryGives, lists_left}
use Rattle.mask_steps.specs.Held.{kind_in, HasNumber, HasValueOf, HasValue, GivesAt, OccursAt}
use Rattle.mask_steps.specs.steps.Cuts.{cut_of}
use Rattle.mask_steps.proofs.KindLaws.{values_meet, values_same, below-true, true-below}
use Rattle.mask_steps.proofs.HeldLaws.{left_at, value_there, value_is, number_in, TakenAt, pair_gives, number_small, has_mask, at_side, left_there}

-- a mask that is met with a fold, in other words
pub met_folded : {S : Type 0} (fresh between old spare : List ℕ) (cut is : Option ℕ) (n : ℕ) → between ≡ old → cut ≡ is → Has spare n ↔ S → Has fresh n ↔ (Has between n × Has spare n × IsBelow cut n) → Has fresh n ↔ (Has old n × S × IsBelow is n)
met_folded fresh between old spare cut is n same bound folded both = (
  λ h. (let b = both.0 h in (subst (λ (words : List ℕ). Has words n) same b.0, folded.0 b.1, subst (λ (o : Option ℕ). IsBelow o n) bound b.2)),
  λ h. both.1 (subst (λ (words : List ℕ). Has words n) (sym same) h.0, folded.1 h.1, subst (λ (o : Option ℕ). IsBelow o n) (sym bound) h.2),
)

module _ (p : Prepared) (i v : ℕ) (e : Entry) (side : Side) (kind : PlaceKind) (at : slice_get p.entries i ≡ Some e) (taken : TakenAt p e v side kind) where
  -- the pairs of the entry in the place give what those of the entry do
  gives_at : (t : ℕ × ℕ) (x : ℕ) → GivesAt p i t v x ↔ EntryGives p e t v x
  gives_at t x = (
    λ h. subst (λ (d : Entry). EntryGives p d t v x) (same_Some h.0 e (sym h.1 ∙ at)) h.2,
    λ h. (e, at, h),
  )

  -- a value occurs exactly where a number at the side has it
  occurs_at : (x : ℕ) → OccursAt p i v x ↔ ((t : ℕ × ℕ) × Contains (pairs_left p.pool e.rel) t × (value_of p kind (number_at side t) ≡ x))
  occurs_at x = (
    λ h. (let there = subst (λ (ts : List (ℕ × ℕ)). Contains ts h.0) (left_at p i e at) h.1 in
        (h.0, there, (pair_gives p e v side kind taken h.0 x (left_there p.pool e.rel h.0 there)).0 ((gives_at h.0 x).0 h.2))),
    λ h. (
      h.0,
      subst (λ (ts : List (ℕ × ℕ)). Contains ts h.0) (sym (left_at p i e at)) h.1,
      (gives_at h.0 x).1 ((pair_gives p e v side kind taken h.0 x (left_there p.pool e.rel h.0 h.1)).1 h.2),
    ),
  )

  left_small : (t : ℕ × ℕ) → Contains (pairs_left p.pool e.rel) t → number_at side t < count_of p kind
  left_small t there = number_small p e v side kind taken t (left_there p.pool e.rel t there)

  module _ (m : Stretch) (work : slice_get p.work v ≡ Some m) (q : Region) where
    new_number : (n : ℕ) → HasNumber (record p { pool = q }) v n ↔ Has (words_of q m) n
    new_number n = number_in (record p { pool = q }) v n m work (has_mask p e v side kind taken)

    -- the first pattern that a variable is gathered from writes its mask
    pub first_gathered : ((n : ℕ) → Has (words_of q m) n ↔ IsAtSide side (pairs_left p.pool e.rel) n) → (x : ℕ) → HasValueOf (record p { pool = q }) (Some kind) v x ↔ OccursAt p i v x
    first_gathered folded x = (
      λ h. (let w = (value_there p q kind v x).0 h in
          let t = (at_side side (pairs_left p.pool e.rel) w.0).0 ((folded w.0).0 ((new_number w.0).0 w.1)) in
          (occurs_at x).1 (t.0, t.1, ap (λ (n : ℕ). value_of p kind n) t.2 ∙ w.3)),
      λ h. (let t = (occurs_at x).0 h in
          let n = number_at side t.0 in
          (value_there p q kind v x).1 (n, (new_number n).1 ((folded n).1 ((at_side side (pairs_left p.pool e.rel) n).1 (t.0, t.1, refl))), left_small t.0 t.1, t.2)),
    )

    -- and each later one leaves in it the numbers that it has too
    pub later_gathered : (held : PlaceKind) → ((n : ℕ) → Has (words_of q m) n ↔ (Has (words_of p.pool m) n × IsAtSide side (pairs_left p.pool e.rel) n × IsBelow (cut_of p.shared kind held) n)) → (x : ℕ) → HasValueOf (record p { pool = q }) (Some held) v x ↔ (HasValueOf p (Some held) v x × OccursAt p i v x)
    later_gathered held met x = (
      λ h. (let w = (value_there p q held v x).0 h in
          let both = (met w.0).0 ((new_number w.0).0 w.1) in
          let t = (at_side side (pairs_left p.pool e.rel) w.0).0 both.1 in
          let small = subst (λ (n : ℕ). n < count_of p kind) t.2 (left_small t.0 t.1) in
          let same = values_same p kind held w.0 small both.2 in (
            (w.0, (number_in p v w.0 m work (has_mask p e v side kind taken)).1 both.0, w.2, w.3),
            (occurs_at x).1 (t.0, t.1, ap (λ (n : ℕ). value_of p kind n) t.2 ∙ same.1 ∙ w.3),
          )),
      λ h. (let old = h.0 in
          let t = (occurs_at x).0 h.1 in
          let n = number_at side t.0 in
          let meet = values_meet p kind held n old.0 (left_small t.0 t.1) old.2 (t.2 ∙ sym old.3) in
          let there = (at_side side (pairs_left p.pool e.rel) n).1 (t.0, t.1, refl) in
          let had = subst (λ (k : ℕ). Has (words_of p.pool m) k) (sym meet.0) ((number_in p v old.0 m work (has_mask p e v side kind taken)).0 old.1) in
          (value_there p q held v x).1 (n, (new_number n).1 ((met n).1 (had, there, meet.1)), subst (λ (k : ℕ). k < count_of p held) (sym meet.0) old.2, ap (λ (k : ℕ). value_of p held k) meet.0 ∙ old.3)),
    )

    pub values_first : (kinds fresh : List (Option PlaceKind)) → kind_in kinds v ≡ None → kind_in fresh v ≡ Some kind → ((n : ℕ) → Has (words_of q m) n ↔ IsAtSide side (pairs_left p.pool e.rel) n) → (x : ℕ) → HasValue (record p { pool = q }) fresh v x ↔ (HasValue p kinds v x × OccursAt p i v x)
    values_first kinds fresh none some folded x =
        let gathered = first_gathered folded x in
        let is = value_is (record p { pool = q }) fresh (Some kind) v x some in
        (λ h. ((value_is p kinds None v x none).1 tt, gathered.0 (is.0 h)), λ h. is.1 (gathered.1 h.1))

    pub values_later : (kinds : List (Option PlaceKind)) (held : PlaceKind) → kind_in kinds v ≡ Some held → ((n : ℕ) → Has (words_of q m) n ↔ (Has (words_of p.pool m) n × IsAtSide side (pairs_left p.pool e.rel) n × IsBelow (cut_of p.shared kind held) n)) → (x : ℕ) → HasValue (record p { pool = q }) kinds v x ↔ (HasValue p kinds v x × OccursAt p i v x)
    values_later kinds held some met x =
        let gathered = later_gathered held met x in
        let is = value_is (record p { pool = q }) kinds (Some held) v x some in
        let was = value_is p kinds (Some held) v x some in
        (λ h. (let g = gathered.0 (is.0 h) in (was.1 g.0, g.1)), λ h. is.1 (gathered.1 (was.0 h.0, h.1)))

  -- a pair is kept by a mask exactly where it gives the variable a value that it holds
  pub spread_keeps : (m : Stretch) → slice_get p.work v ≡ Some m → (held : PlaceKind) (t : ℕ × ℕ) → Contains (pairs_left p.pool e.rel) t → (is_kept side (words_of p.pool m) (cut_of p.shared kind held) t ≡ true) ↔ ((x : ℕ) × HasValueOf p (Some held) v x × GivesAt p i t v x)
  spread_keeps m work held t there =
      let n = number_at side t in
      let number = number_in p v n m work (has_mask p e v side kind taken) in
      let gives : (x : ℕ) → EntryGives p e t v x ↔ (value_of p kind n ≡ x) = (λ x. pair_gives p e v side kind taken t x (left_there p.pool e.rel t there)) in (
        λ h. (let both = and_parts (is_in (words_of p.pool m) n) (is_below (cut_of p.shared kind held) n) h in
            let same = values_same p kind held n (left_small t there) (true-below (cut_of p.shared kind held) n both.1) in (
              value_of p kind n,
              (n, number.1 ((is_in-has (words_of p.pool m) n).0 both.0), same.0, sym same.1),
              (gives_at t (value_of p kind n)).1 ((gives (value_of p kind n)).1 refl),
            )),
        λ (x, old, given). (let is = (gives x).0 ((gives_at t x).0 given) in
            let meet = values_meet p kind held n old.0 (left_small t there) old.2 (is ∙ sym old.3) in
            let had = subst (λ (k : ℕ). Has (words_of p.pool m) k) (sym meet.0) ((number_in p v old.0 m work (has_mask p e v side kind taken)).0 old.1) in
            and_from (is_in (words_of p.pool m) n) (is_below (cut_of p.shared kind held) n) ((is_in-has (words_of p.pool m) n).1 had) (below-true (cut_of p.shared kind held) n meet.1)),
      )

  -- so the pairs left afterwards are those
  pub spread_left : (m : Stretch) → slice_get p.work v ≡ Some m → (q : Region) (kinds : List (Option PlaceKind)) (held : PlaceKind) (cut : Option ℕ) → kind_in kinds v ≡ Some held → cut ≡ cut_of p.shared kind held → pairs_left q e.rel ≡ filter (is_kept side (words_of p.pool m) cut) (pairs_left p.pool e.rel) → (t : ℕ × ℕ) → Contains (lists_left (record p { pool = q }) i) t ↔ (Contains (lists_left p i) t × ((x : ℕ) × HasValue p kinds v x × GivesAt p i t v x))
  spread_left m work q kinds held cut some bound left t =
      let new = left_at (record p { pool = q }) i e at in
      let old = left_at p i e at in
      let kept = Contains-filter (is_kept side (words_of p.pool m) cut) (pairs_left p.pool e.rel) t in
      let cuts = λ (is : is_kept side (words_of p.pool m) cut t ≡ true). subst (λ (o : Option ℕ). is_kept side (words_of p.pool m) o t ≡ true) bound is in
      let back = λ (is : is_kept side (words_of p.pool m) (cut_of p.shared kind held) t ≡ true). subst (λ (o : Option ℕ). is_kept side (words_of p.pool m) o t ≡ true) (sym bound) is in (
        λ h. (let k = kept.0 (subst (λ (ts : List (ℕ × ℕ)). Contains ts t) (new ∙ left) h) in
            let w = (spread_keeps m work held t k.0).0 (cuts k.1) in
            (subst (λ (ts : List (ℕ × ℕ)). Contains ts t) (sym old) k.0, (w.0, (value_is p kinds (Some held) v w.0 some).1 w.1, w.2))),
        λ h. (let there = subst (λ (ts : List (ℕ × ℕ)). Contains ts t) old h.0 in
            let w = h.1 in
            subst (λ (ts : List (ℕ × ℕ)). Contains ts t) (sym (new ∙ left)) (kept.1 (there, back ((spread_keeps m work held t there).1 (w.0, (value_is p kinds (Some held) v w.0 some).0 w.1, w.2))))),
      )

  -- a variable that holds all values keeps all pairs
  pub all_given : (kinds : List (Option PlaceKind)) → kind_in kinds v ≡ None → (t : ℕ × ℕ) → Contains (lists_left p i) t ↔ (Contains (lists_left p i) t × ((x : ℕ) × HasValue p kinds v x × GivesAt p i t v x))
  all_given kinds none t = (
    λ h. (let there = left_there p.pool e.rel t (subst (λ (ts : List (ℕ × ℕ)). Contains ts t) (left_at p i e at) h) in
        let x = value_of p kind (number_at side t) in
        (h, (x, (value_is p kinds None v x none).1 tt, (gives_at t x).1 ((pair_gives p e v side kind taken t x there).1 refl)))),
    λ h. h.0,
  )

-- the list of a place is filtered where its pairs are
pub spread_order : (p : Prepared) (i : ℕ) (e : Entry) → slice_get p.entries i ≡ Some e → (q : Region) (test : ℕ × ℕ → Bool) → pairs_left q e.rel ≡ filter test (pairs_left p.pool e.rel) → lists_left (record p { pool = q }) i ≡ filter test (lists_left p i)
spread_order p i e at q test left = left_at (record p { pool = q }) i e at ∙ (left ∙ sym (ap (λ (ts : List (ℕ × ℕ)). filter test ts) (left_at p i e at)))
