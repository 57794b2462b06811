-- What is left of relations and what variables hold, once a step has written a mask.
use Rattle.std.proofs.Common.{◌≡◌, ◌≢◌, ◌↔◌, ◌⊎◌, ℕ, ◌+◌, ◌<◌, inl, inr, List, length, Option, Some, None, refl, sym, ap, subst, ◌∙◌, arith}
use Rattle.std.specs.Prelude.{slice_get, Contains}
use Rattle.std.proofs.lemmas.Option.{same_Some}
use Rattle.row_lanes.specs.Words.{Has}
use Rattle.mask_pool.specs.Mask.{Stretch}
use Rattle.mask_pool.specs.Region.{Region, words_of}
use Rattle.alg_model.specs.declared.var.Var.{Var}
use Rattle.cube_slices.specs.Lines.{pairs_of}
use Rattle.pattern_rel.specs.Left.{Relation, pairs_left, left_in, is_left, IsAtSide, number_at}
use Rattle.pattern_rel.specs.declared.side.Side.{Side}
use Rattle.pattern_rel.specs.declared.side.Side.TheVariants.{First, Second}
use Rattle.pattern_rel.proofs.PairLaws.{Contains-filter}
use Rattle.tree_relations.specs.declared.prepared.PlaceKind.{PlaceKind}
use Rattle.tree_relations.specs.declared.prepared.PlaceKind.TheVariants.{Subject, Object, Predicate}
use Rattle.tree_relations.specs.declared.prepared.SidePlace.{SidePlace}
use Rattle.tree_relations.specs.declared.prepared.Entry.{Entry}
use Rattle.tree_relations.specs.declared.prepared.Prepared.{Prepared}
use Rattle.tree_relations.specs.Prepared.{count_of, FitsPlace, MeetsItself, FitsEntry, FitsTogether}
use Rattle.tree_relations.specs.Fits.{IsSide}
use Rattle.tree_relations.specs.Readings.{value_of, SideGives, EntryGives, left_of, lists_left}
use Rattle.mask_steps.specs.Held.{kind_in, HasNumber, HasValueOf, HasValue, MayMeet, IsVarAt}
use Rattle.mask_steps.specs.steps.Sides.{IsTaken}
use Rattle.mask_steps.proofs.KindLaws.{shared_same}
use Rattle.mask_steps.proofs.PlaceLaws.{StayBut, first_place, second_place, first_at, second_at, work_at, entry_at}

-- ---- lists

-- the pairs left of the entry in a place
pub left_at : (p : Prepared) (i : ℕ) (e : Entry) → slice_get p.entries i ≡ Some e → lists_left p i ≡ pairs_left p.pool e.rel
left_at p i e at = ap (left_of p) at

-- where each entry there has the same pairs left, so has the list
pub lists_by : (p : Prepared) (q : Region) (j : ℕ) → ((e : Entry) → slice_get p.entries j ≡ Some e → pairs_left q e.rel ≡ pairs_left p.pool e.rel) → lists_left (record p { pool = q }) j ≡ lists_left p j
lists_by p q j same = go (slice_get p.entries j) refl
  where
    go : (o : Option Entry) → slice_get p.entries j ≡ o → left_of (record p { pool = q }) o ≡ left_of p o
    go None is = refl
    go (Some e) is = same e is

pub left_same : (p q : Region) (rel : Relation) → words_of q rel.first ≡ words_of p rel.first → words_of q rel.second ≡ words_of p rel.second → pairs_left q rel ≡ pairs_left p rel
left_same p q rel first second = ap (λ (words : List ℕ). left_in words (words_of q rel.second) rel.lines) first ∙ ap (λ (words : List ℕ). left_in (words_of p rel.first) words rel.lines) second

module _ (p : Prepared) (q : Region) (k s : ℕ) (stay : StayBut p q k s) where
  pub first_stays : (i : ℕ) (e : Entry) → slice_get p.entries i ≡ Some e → first_place p i ≢ k → first_place p i ≢ s → words_of q e.rel.first ≡ words_of p.pool e.rel.first
  first_stays i e at differ also = stay (first_place p i) e.rel.first (first_at p i e at) differ also

  pub second_stays : (i : ℕ) (e : Entry) → slice_get p.entries i ≡ Some e → second_place p i ≢ k → second_place p i ≢ s → words_of q e.rel.second ≡ words_of p.pool e.rel.second
  second_stays i e at differ also = stay (second_place p i) e.rel.second (second_at p i e at) differ also

  -- where working masks alone were written, all lists stay
  pub all_lists_stay : k < length p.work → s < length p.work → (j : ℕ) → lists_left (record p { pool = q }) j ≡ lists_left p j
  all_lists_stay work also j = lists_by p q j (λ e at. left_same p.pool q e.rel (first_stays j e at (omega arith) (omega arith)) (second_stays j e at (omega arith) (omega arith)))

  -- the numbers of a variable stay whose mask was not written
  pub number_stays : (v n : ℕ) → (v + 1 < length p.work → (v ≢ k) × (v ≢ s)) → HasNumber (record p { pool = q }) v n ↔ HasNumber p v n
  number_stays v n apart = (
    λ h. (let differ = apart h.within in
        record { within = h.within; mask = h.mask; at = h.at; has = subst (λ (words : List ℕ). Has words n) (stay v h.mask (work_at p v h.mask h.at) differ.0 differ.1) h.has }),
    λ h. (let differ = apart h.within in
        record { within = h.within; mask = h.mask; at = h.at; has = subst (λ (words : List ℕ). Has words n) (sym (stay v h.mask (work_at p v h.mask h.at) differ.0 differ.1)) h.has }),
  )

-- the values held are those of the numbers, whatever the pool
pub value_there : (p : Prepared) (q : Region) (kind : PlaceKind) (v x : ℕ) → HasValueOf (record p { pool = q }) (Some kind) v x ↔ ((n : ℕ) × HasNumber (record p { pool = q }) v n × (n < count_of p kind) × (value_of p kind n ≡ x))
value_there p q Subject v x = (λ h. h, λ h. h)
value_there p q Object v x = (λ h. h, λ h. h)
value_there p q Predicate v x = (λ h. h, λ h. h)

-- where a variable has the numbers that it had, it holds the values that it held
pub value_by : (p : Prepared) (q : Region) (o : Option PlaceKind) (v x : ℕ) → ((n : ℕ) → HasNumber (record p { pool = q }) v n ↔ HasNumber p v n) → HasValueOf (record p { pool = q }) o v x ↔ HasValueOf p o v x
value_by p q None v x same = (λ h. h, λ h. h)
value_by p q (Some kind) v x same = (
  λ h. (let w = (value_there p q kind v x).0 h in (w.0, (same w.0).0 w.1, w.2, w.3)),
  λ h. (value_there p q kind v x).1 (h.0, (same h.0).1 h.1, h.2, h.3),
)

pub values_stay : (p : Prepared) (q : Region) (k s : ℕ) → StayBut p q k s → (kinds fresh : List (Option PlaceKind)) (v x : ℕ) → kind_in fresh v ≡ kind_in kinds v → (v + 1 < length p.work → (v ≢ k) × (v ≢ s)) → HasValue (record p { pool = q }) fresh v x ↔ HasValue p kinds v x
values_stay p q k s stay kinds fresh v x is apart =
    let same = value_by p q (kind_in kinds v) v x (λ n. number_stays p q k s stay v n apart) in (
      λ h. same.0 (subst (λ (o : Option PlaceKind). HasValueOf (record p { pool = q }) o v x) is h),
      λ h. subst (λ (o : Option PlaceKind). HasValueOf (record p { pool = q }) o v x) (sym is) (same.1 h),
    )

-- the values held, where the kind of the variable's numbers is known
pub value_is : (p : Prepared) (kinds : List (Option PlaceKind)) (o : Option PlaceKind) (v x : ℕ) → kind_in kinds v ≡ o → HasValue p kinds v x ↔ HasValueOf p o v x
value_is p kinds o v x is = (λ h. subst (λ (o : Option PlaceKind). HasValueOf p o v x) is h, λ h. subst (λ (o : Option PlaceKind). HasValueOf p o v x) (sym is) h)

-- a variable has a number exactly where its mask does
pub number_in : (p : Prepared) (v n : ℕ) (m : Stretch) → slice_get p.work v ≡ Some m → v + 1 < length p.work → HasNumber p v n ↔ Has (words_of p.pool m) n
number_in p v n m at within = (
  λ h. subst (λ (mask : Stretch). Has (words_of p.pool mask) n) (same_Some h.mask m (sym h.at ∙ at)) h.has,
  λ h. record { within = within; mask = m; at = at; has = h },
)

-- ---- sides

same_var : (a b : Var) → a.0 ≡ b.0 → a ≡ b
same_var a b is = ap (λ (n : ℕ). record { 0 = n }) is

-- a value that a shared number has at one place it has at the other
same_value : (p : Prepared) (a b : PlaceKind) (n c x : ℕ) → MayMeet a b → (n ≡ c) × (n < p.shared) → value_of p b c ≡ x → value_of p a n ≡ x
same_value p a b n c x meet shared is = shared_same p a b n meet shared.1 ∙ ap (λ (m : ℕ). value_of p b m) shared.0 ∙ is

-- the two sides of a relation, where they have the same variable
abbrev MeetAtBoth : Prepared → Option SidePlace → Option SidePlace → ℕ → ℕ → Type 0
MeetAtBoth p None second n c = Unit {0}
MeetAtBoth p (Some a) None n c = Unit {0}
MeetAtBoth p (Some a) (Some b) n c = a.var ≡ b.var → (n ≡ c) × (n < p.shared)

module _ (p : Prepared) (kind : PlaceKind) (n c v x : ℕ) where
  first_gives : (first second : Option SidePlace) → IsSide first kind v → MeetAtBoth p first second n c → ((a b : PlaceKind) → IsSide first a v → IsSide second b v → MayMeet a b) → (SideGives p first n v x ⊎ SideGives p second c v x) ↔ (value_of p kind n ≡ x)
  first_gives None second there both meet = absurd there
  first_gives (Some a) None there both meet = (
    λ h. elim h [ inl g ↦ subst (λ (k : PlaceKind). value_of p k n ≡ x) there.0 g.1 | inr never ↦ absurd never ],
    λ h. inl (there.1, subst (λ (k : PlaceKind). value_of p k n ≡ x) (sym there.0) h),
  )
  first_gives (Some a) (Some b) there both meet = (
    λ h. elim h [
      | inl g ↦ subst (λ (k : PlaceKind). value_of p k n ≡ x) there.0 g.1
      | inr g ↦ subst (λ (k : PlaceKind). value_of p k n ≡ x) there.0 (same_value p a.kind b.kind n c x (meet a.kind b.kind (refl, there.1) (refl, g.0)) (both (same_var a.var b.var (there.1 ∙ sym g.0))) g.1)
    ],
    λ h. inl (there.1, subst (λ (k : PlaceKind). value_of p k n ≡ x) (sym there.0) h),
  )

  second_gives : (first second : Option SidePlace) → IsSide second kind v → ((other : PlaceKind) → IsSide first other v → ⊥) → (SideGives p first n v x ⊎ SideGives p second c v x) ↔ (value_of p kind c ≡ x)
  second_gives first None there never = absurd there
  second_gives None (Some b) there never = (
    λ h. elim h [ inl never ↦ absurd never | inr g ↦ subst (λ (k : PlaceKind). value_of p k c ≡ x) there.0 g.1 ],
    λ h. inr (there.1, subst (λ (k : PlaceKind). value_of p k c ≡ x) (sym there.0) h),
  )
  second_gives (Some a) (Some b) there never = (
    λ h. elim h [ inl g ↦ absurd (never a.kind (refl, g.0)) | inr g ↦ subst (λ (k : PlaceKind). value_of p k c ≡ x) there.0 g.1 ],
    λ h. inr (there.1, subst (λ (k : PlaceKind). value_of p k c ≡ x) (sym there.0) h),
  )

meet_both : (p : Prepared) (e : Entry) (first second : Option SidePlace) (n c : ℕ) → MeetsItself p e first second → Contains (pairs_of e.rel.lines) (n, c) → MeetAtBoth p first second n c
meet_both p e None second n c itself there = tt
meet_both p e (Some a) None n c itself there = tt
meet_both p e (Some a) (Some b) n c itself there = λ same. itself same n c there

-- the sides of an entry whose variable may be taken
pub record TakenAt (p : Prepared) (e : Entry) (v : ℕ) (side : Side) (kind : PlaceKind) : Type 0 where
  pub fits : FitsEntry p e
  pub taken : IsTaken e v side kind
  pub meet : (a b : PlaceKind) → IsSide e.first a v → IsSide e.second b v → MayMeet a b

pub taken_at : (p : Prepared) (i v : ℕ) (e : Entry) (side : Side) (kind : PlaceKind) → FitsTogether p → IsVarAt p i v → slice_get p.entries i ≡ Some e → IsTaken e v side kind → TakenAt p e v side kind
taken_at p i v e side kind fits there at taken =
    let same : there.entry ≡ e = same_Some there.entry e (sym there.at ∙ at) in
    record {
      fits = entry_at p fits i e at;
      taken = taken;
      meet = subst (λ (x : Entry). (a b : PlaceKind) → IsSide x.first a v → IsSide x.second b v → MayMeet a b) same there.meet;
    }

-- a pair gives the variable just the value of its number at the side where the variable is taken
pub pair_gives : (p : Prepared) (e : Entry) (v : ℕ) (side : Side) (kind : PlaceKind) → TakenAt p e v side kind → (t : ℕ × ℕ) (x : ℕ) → Contains (pairs_of e.rel.lines) t → EntryGives p e t v x ↔ (value_of p kind (number_at side t) ≡ x)
pair_gives p e v First kind at t x there = first_gives p kind t.0 t.1 v x e.first e.second at.taken.there (meet_both p e e.first e.second t.0 t.1 at.fits.itself there) at.meet
pair_gives p e v Second kind at t x there = second_gives p kind t.0 t.1 v x e.first e.second at.taken.there (at.taken.first refl)

place_small : (p : Prepared) (side : Side) (e : Entry) (place : Option SidePlace) (kind : PlaceKind) (v n : ℕ) → FitsPlace p side e place → IsSide place kind v → IsAtSide side (pairs_of e.rel.lines) n → n < count_of p kind
place_small p side e None kind v n fits there at = absurd there
place_small p side e (Some place) kind v n fits there at = subst (λ (k : PlaceKind). n < count_of p k) there.0 (fits.0 n at)

place_works : (p : Prepared) (side : Side) (e : Entry) (place : Option SidePlace) (kind : PlaceKind) (v : ℕ) → FitsPlace p side e place → IsSide place kind v → v + 1 < length p.work
place_works p side e None kind v fits there = absurd there
place_works p side e (Some place) kind v fits there = (let same = there.1 in omega arith)

-- its number there is one of its kind
pub number_small : (p : Prepared) (e : Entry) (v : ℕ) (side : Side) (kind : PlaceKind) → TakenAt p e v side kind → (t : ℕ × ℕ) → Contains (pairs_of e.rel.lines) t → number_at side t < count_of p kind
number_small p e v First kind at t there = place_small p First e e.first kind v t.0 at.fits.first at.taken.there (t.1, there)
number_small p e v Second kind at t there = place_small p Second e e.second kind v t.1 at.fits.second at.taken.there (t.0, there)

-- the variable has a working mask that is not the last one
pub has_mask : (p : Prepared) (e : Entry) (v : ℕ) (side : Side) (kind : PlaceKind) → TakenAt p e v side kind → v + 1 < length p.work
has_mask p e v First kind at = place_works p First e e.first kind v at.fits.first at.taken.there
has_mask p e v Second kind at = place_works p Second e e.second kind v at.fits.second at.taken.there

-- a number at a side is that of some pair
pub at_side : (side : Side) (ts : List (ℕ × ℕ)) (n : ℕ) → IsAtSide side ts n ↔ ((t : ℕ × ℕ) × Contains ts t × (number_at side t ≡ n))
at_side First ts n = (λ h. ((n, h.0), h.1, refl), λ h. (h.0.1, subst (λ (m : ℕ). Contains ts (m, h.0.1)) h.2 h.1))
at_side Second ts n = (λ h. ((h.0, n), h.1, refl), λ h. (h.0.0, subst (λ (m : ℕ). Contains ts (h.0.0, m)) h.2 h.1))

-- a pair that is left is one of the relation
pub left_there : (pool : Region) (rel : Relation) (t : ℕ × ℕ) → Contains (pairs_left pool rel) t → Contains (pairs_of rel.lines) t
left_there pool rel t there = ((Contains-filter (is_left (words_of pool rel.first) (words_of pool rel.second)) (pairs_of rel.lines) t).0 there).0
