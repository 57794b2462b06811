-- Where the masks stand in the list of all masks, and which of them a step leaves as they were.
use Rattle.std.proofs.Common.{◌≡◌, ◌≢◌, ℕ, zero, suc, ◌+◌, ◌<◌, ◌≤◌, inl, inr, List, [], ◌∷◌, ◌++◌, length, get_or, Option, Some, None, refl, sym, ap, subst, ◌∙◌, arith}
use Rattle.std.specs.Prelude.{All, AllPairs, slice_get}
use Rattle.std.specs.List.{flat_map}
use Rattle.std.proofs.lemmas.Bool.{cases_lt}
use Rattle.std.proofs.lemmas.Option.{none-some, slice_get_within, get_or_from_slice_get}
use Rattle.std.proofs.lemmas.List.Elements.{All-get_or, All-weaker}
use Rattle.mask_pool.specs.Mask.{Stretch, words_for, DoNotOverlap}
use Rattle.mask_pool.specs.Region.{Region, IsLive, words_of}
use Rattle.pattern_rel.specs.Folds.{IsUsable, CanFold, Keeps}
use Rattle.tree_relations.specs.declared.prepared.SidePlace.{SidePlace}
use Rattle.pattern_rel.specs.declared.side.Side.{Side}
use Rattle.pattern_rel.specs.declared.side.Side.TheVariants.{First, Second}
use Rattle.pattern_rel.specs.Left.{own_of}
use Rattle.tree_relations.specs.declared.prepared.Entry.{Entry}
use Rattle.tree_relations.specs.declared.prepared.Prepared.{Prepared}
use Rattle.tree_relations.specs.Prepared.{FitsPlace, MeetsItself, FitsEntry, masks_of, FitsTogether, work_bits}
use Rattle.mask_steps.proofs.KindLaws.{count_moved}

-- ---- lists

module _ {X : Type 0} where
  pub all_at : (P : X → Type 0) (xs : List X) (k : ℕ) (x : X) → All P xs → slice_get xs k ≡ Some x → P x
  all_at P xs k x all at = subst P (get_or_from_slice_get xs k x x at) (All-get_or P xs k x (slice_get_within xs k x at) all)

  pub pairs_at : (R : X → X → Type 0) (xs : List X) (k l : ℕ) (x y : X) → AllPairs R xs → slice_get xs k ≡ Some x → slice_get xs l ≡ Some y → k < l → R x y
  pairs_at R xs k l x y all at other before =
      subst (λ (a : X). R a y) (get_or_from_slice_get xs k x x at) (subst (λ (b : X). R (get_or xs k x) b) (get_or_from_slice_get xs l y x other) (all k l x before (slice_get_within xs l y other)))

  pub front_at : (xs ys : List X) (k : ℕ) (x : X) → slice_get xs k ≡ Some x → slice_get (xs ++ ys) k ≡ Some x
  front_at [] ys k x at = absurd (none-some x at)
  front_at (z ∷ xs) ys zero x at = at
  front_at (z ∷ xs) ys (suc k) x at = front_at xs ys k x at

  pub behind_at : (xs ys : List X) (k n : ℕ) → n ≡ length xs + k → slice_get (xs ++ ys) n ≡ slice_get ys k
  behind_at [] ys k n is = (let same : n ≡ k = omega arith in ap (λ (m : ℕ). slice_get ys m) same)
  behind_at (x ∷ xs) ys k zero is = absurd (omega arith)
  behind_at (x ∷ xs) ys k (suc n) is = behind_at xs ys k n (omega arith)

-- ---- places

-- fewer bits take no more words
within_words : (a b : ℕ) → a ≤ b → words_for a ≤ words_for b
within_words a b le = omega arith

-- the masks of relations, one after the other
abbrev pub own_masks : List Entry → List Stretch
own_masks entries = flat_map (λ e. e.rel.first ∷ e.rel.second ∷ []) entries

own_first : (entries : List Entry) (i k : ℕ) (e : Entry) → slice_get entries i ≡ Some e → k ≡ i + i → slice_get (own_masks entries) k ≡ Some e.rel.first
own_first [] i k e at is = absurd (none-some e at)
own_first (x ∷ entries) zero zero e at is = ap (λ (o : Option Entry). slice_get (own_masks_or o) 0) at
  where
    own_masks_or : Option Entry → List Stretch
    own_masks_or None = []
    own_masks_or (Some e) = e.rel.first ∷ e.rel.second ∷ []
own_first (x ∷ entries) zero (suc k) e at is = absurd (omega arith)
own_first (x ∷ entries) (suc i) zero e at is = absurd (omega arith)
own_first (x ∷ entries) (suc i) (suc zero) e at is = absurd (omega arith)
own_first (x ∷ entries) (suc i) (suc (suc k)) e at is = own_first entries i k e at (omega arith)

own_second : (entries : List Entry) (i k : ℕ) (e : Entry) → slice_get entries i ≡ Some e → k ≡ i + i + 1 → slice_get (own_masks entries) k ≡ Some e.rel.second
own_second [] i k e at is = absurd (none-some e at)
own_second (x ∷ entries) zero zero e at is = absurd (omega arith)
own_second (x ∷ entries) zero (suc zero) e at is = ap (λ (o : Option Entry). slice_get (own_masks_or o) 1) at
  where
    own_masks_or : Option Entry → List Stretch
    own_masks_or None = []
    own_masks_or (Some e) = e.rel.first ∷ e.rel.second ∷ []
own_second (x ∷ entries) zero (suc (suc k)) e at is = absurd (omega arith)
own_second (x ∷ entries) (suc i) zero e at is = absurd (omega arith)
own_second (x ∷ entries) (suc i) (suc zero) e at is = absurd (omega arith)
own_second (x ∷ entries) (suc i) (suc (suc k)) e at is = own_second entries i k e at (omega arith)

-- the place of a relation's first mask among all masks, and of its second one
abbrev pub first_place : Prepared → ℕ → ℕ
first_place p i = length p.work + (i + i)

abbrev pub second_place : Prepared → ℕ → ℕ
second_place p i = length p.work + (i + i + 1)

module _ (p : Prepared) where
  pub work_at : (k : ℕ) (m : Stretch) → slice_get p.work k ≡ Some m → slice_get (masks_of p) k ≡ Some m
  work_at k m at = front_at p.work (own_masks p.entries) k m at

  pub first_at : (i : ℕ) (e : Entry) → slice_get p.entries i ≡ Some e → slice_get (masks_of p) (first_place p i) ≡ Some e.rel.first
  first_at i e at = behind_at p.work (own_masks p.entries) (i + i) (first_place p i) refl ∙ own_first p.entries i (i + i) e at refl

  pub second_at : (i : ℕ) (e : Entry) → slice_get p.entries i ≡ Some e → slice_get (masks_of p) (second_place p i) ≡ Some e.rel.second
  second_at i e at = behind_at p.work (own_masks p.entries) (i + i + 1) (second_place p i) refl ∙ own_second p.entries i (i + i + 1) e at refl

  pub usable_at : FitsTogether p → (k : ℕ) (m : Stretch) → slice_get (masks_of p) k ≡ Some m → IsUsable p.pool m
  usable_at fits k m at = all_at (IsUsable p.pool) (masks_of p) k m fits.usable at

  pub apart_at : FitsTogether p → (k l : ℕ) (m other : Stretch) → slice_get (masks_of p) k ≡ Some m → slice_get (masks_of p) l ≡ Some other → k ≢ l → DoNotOverlap m other
  apart_at fits k l m other at there differ = elim (cases_lt k l) [
    | inl before ↦ pairs_at DoNotOverlap (masks_of p) k l m other fits.apart at there before
    | inr from ↦ (let behind = pairs_at DoNotOverlap (masks_of p) l k other m fits.apart there at (omega arith) in omega arith)
  ]

  pub entry_at : FitsTogether p → (i : ℕ) (e : Entry) → slice_get p.entries i ≡ Some e → FitsEntry p e
  entry_at fits i e at = all_at (FitsEntry p) p.entries i e fits.entries at

  -- a relation can be folded into a working mask
  pub can_fold : FitsTogether p → (i v : ℕ) (e : Entry) (m : Stretch) → slice_get p.entries i ≡ Some e → slice_get p.work v ≡ Some m → CanFold p.pool e.rel.first e.rel.second m
  can_fold fits i v e m at work =
      let within = slice_get_within p.work v m work in
      record {
        first = usable_at fits (first_place p i) e.rel.first (first_at i e at);
        second = usable_at fits (second_place p i) e.rel.second (second_at i e at);
        into = usable_at fits v m (work_at v m work);
        first_apart = apart_at fits v (first_place p i) m e.rel.first (work_at v m work) (first_at i e at) (omega arith);
        second_apart = apart_at fits v (second_place p i) m e.rel.second (work_at v m work) (second_at i e at) (omega arith);
      }

  -- there is room for a side's numbers in a working mask
  pub room_at : FitsTogether p → (i v : ℕ) (e : Entry) (m : Stretch) (side : Side) → slice_get p.entries i ≡ Some e → slice_get p.work v ≡ Some m → words_for (own_of side e.rel).bits ≤ words_for m.bits
  room_at fits i v e m First at work =
      let size : m.bits ≡ work_bits p = all_at (λ (m : Stretch). m.bits ≡ work_bits p) p.work v m fits.work work in
      let room = (entry_at fits i e at).first_room in
      within_words e.rel.first.bits m.bits (subst (λ (n : ℕ). e.rel.first.bits ≤ n) (sym size) room)
  room_at fits i v e m Second at work =
      let size : m.bits ≡ work_bits p = all_at (λ (m : Stretch). m.bits ≡ work_bits p) p.work v m fits.work work in
      let room = (entry_at fits i e at).second_room in
      within_words e.rel.second.bits m.bits (subst (λ (n : ℕ). e.rel.second.bits ≤ n) (sym size) room)

  -- ---- another pool

  module _ (q : Region) where
    place_moved : (side : Side) (e : Entry) (place : Option SidePlace) → FitsPlace p side e place → FitsPlace (record p { pool = q }) side e place
    place_moved side e None fits = fits
    place_moved side e (Some place) fits =
        (λ n at. subst (λ (m : ℕ). n < m) (sym (count_moved p q place.kind)) (fits.0 n at), fits.1)

    itself_moved : (e : Entry) (first second : Option SidePlace) → MeetsItself p e first second → MeetsItself (record p { pool = q }) e first second
    itself_moved e None second meets = meets
    itself_moved e (Some a) None meets = meets
    itself_moved e (Some a) (Some b) meets = meets

    entry_moved : (e : Entry) → FitsEntry p e → FitsEntry (record p { pool = q }) e
    entry_moved e fits = record {
      first = place_moved First e e.first fits.first;
      second = place_moved Second e e.second fits.second;
      itself = itself_moved e e.first e.second fits.itself;
      few = fits.few;
      first_room = fits.first_room;
      second_room = fits.second_room;
    }

    -- what fits together does so with a pool in which no mask has ended
    pub together_moved : FitsTogether p → ((m : Stretch) → IsLive p.pool m → IsLive q m) → FitsTogether (record p { pool = q })
    together_moved fits live = record {
      counts = fits.counts;
      work = fits.work;
      entries = All-weaker (FitsEntry p) (FitsEntry (record p { pool = q })) entry_moved p.entries fits.entries;
      usable = All-weaker (IsUsable p.pool) (IsUsable q) (λ m usable. record { live = live m usable.live; few = usable.few }) (masks_of p) fits.usable;
      apart = fits.apart;
    }

    -- all masks but those at two places have the words that they had
    abbrev pub StayBut : ℕ → ℕ → Type 0
    StayBut k s = (l : ℕ) (m : Stretch) → slice_get (masks_of p) l ≡ Some m → l ≢ k → l ≢ s → words_of q m ≡ words_of p.pool m

    pub stay_one : FitsTogether p → (k : ℕ) (m : Stretch) → slice_get (masks_of p) k ≡ Some m → Keeps p.pool q m → StayBut k k
    stay_one fits k m at keeps l other there differ also =
        (keeps.others other (usable_at fits l other there).live (apart_at fits l k other m there at differ)).words

    pub stay_two : FitsTogether p → (between : Region) (k s : ℕ) (m spare : Stretch) → slice_get (masks_of p) k ≡ Some m → slice_get (masks_of p) s ≡ Some spare → Keeps p.pool between spare → Keeps between q m → StayBut k s
    stay_two fits between k s m spare at last first second l other there differ also =
        let live = (usable_at fits l other there).live in
        (second.others other (first.live other live) (apart_at fits l k other m there at differ)).words
        ∙ (first.others other live (apart_at fits l s other spare there last also)).words
