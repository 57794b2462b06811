-- What was seen, grouped and numbered is the numbering of the graph.
use Rattle.std.proofs.Common.{◌≡◌, ◌↔◌, ℕ, zero, suc, ◌⊎◌, inl, inr, Bool, true, false, not, ◌&&◌, ◌||◌, bytes_eq, List, [], ◌∷◌, Some, Contains, map, filter, refl, sym, ap, ◌∙◌, subst, true≢false}
use Rattle.std.proofs.lemmas.Bool.{eqb-true, eq-eqb}
use Rattle.std.proofs.lemmas.List.Kept.{IsStrictlySortedBy-filter}
use Rattle.std.proofs.Math.Bool.{or-true}
use Rattle.std.proofs.Math.Dec.{eqb}
use Rattle.std.specs.Cmp.Lexicographic.{same_text, on_texts_equal}
use Rattle.std.specs.List.{slice_get, list_any, IsDistinct, AllByRecursion}
use Rattle.std.specs.List.Sorted.{IsStrictlySortedBy}
use Rattle.bm_term.specs.SetOf.{set_of}
use Rattle.bm_term.specs.declared.triple.Triple.{Triple}
use Rattle.bm_term.proofs.Elements.{Contains-head, Contains-tail, Contains-cons_cases, Contains-nil}
use Rattle.term_numbers.specs.Order.{text_cmp, Numbered}
use Rattle.term_numbers.specs.Numbering.{Terms, subject_texts, predicate_texts, object_texts, is_among, terms_of}
use Rattle.term_numbers.specs.declared.entry.Entry.{Entry}
use Rattle.term_numbers.specs.held.Entries.{texts_in, is_shared, is_subject_alone, is_object_alone, IsGroup, AreGroups, anywhere}
use Rattle.term_numbers.specs.held.Seen.{AreSeen, IsSeenWhole, role_of}
use Rattle.term_numbers.proofs.Ascending.{text_cmp-total, text_cmp-exact, set_of-is, same_members}
use Rattle.term_numbers.proofs.EntryLaws.{same_some, Contains-filter, filter-Contains}

-- ---- mapped lists

module _ {X Y : Type 0} (f : X → Y) where
  -- an item of a mapped list is mapped from one
  pub from_map : (xs : List X) (y : Y) → Contains (map f xs) y → (x : X) × Contains xs x × (f x ≡ y)
  from_map [] y there = absurd (Contains-nil y there)
  from_map (x ∷ xs) y there = by (λ rest. from_map xs y rest) (Contains-cons_cases (f x) (map f xs) y there)
    where
      by : (Contains (map f xs) y → (u : X) × Contains xs u × (f u ≡ y)) → (f x ≡ y) ⊎ Contains (map f xs) y → (u : X) × Contains (x ∷ xs) u × (f u ≡ y)
      by later (inl same) = (x, Contains-head x xs, same)
      by later (inr rest) = let found = later rest in (found.0, Contains-tail x xs found.0 found.1, found.2)

  pub Contains-map : (xs : List X) (x : X) → Contains xs x → Contains (map f xs) (f x)
  Contains-map [] x there = absurd (Contains-nil x there)
  Contains-map (z ∷ xs) x there = by (λ rest. Contains-map xs x rest) (Contains-cons_cases z xs x there)
    where
      by : (Contains xs x → Contains (map f xs) (f x)) → (z ≡ x) ⊎ Contains xs x → Contains (f z ∷ map f xs) (f x)
      by later (inl same) = subst (λ u. Contains (f z ∷ map f xs) (f u)) same (Contains-head (f z) (map f xs))
      by later (inr rest) = Contains-tail (f z) (map f xs) (f x) (later rest)

  -- lists with the same items have the same items when they are mapped
  pub map-same : (xs ys : List X) → ((x : X) → Contains xs x ↔ Contains ys x) → (y : Y) → Contains (map f xs) y ↔ Contains (map f ys) y
  map-same xs ys same y = (
    λ there. let e = from_map xs y there in subst (Contains (map f ys)) e.2 (Contains-map ys e.0 ((same e.0).0 e.1)),
    λ there. let e = from_map ys y there in subst (Contains (map f xs)) e.2 (Contains-map xs e.0 ((same e.0).1 e.1)),
  )

-- ---- whether a text is among texts

pub bytes_eq-itself : (x : List ℕ) → bytes_eq x x ≡ true
bytes_eq-itself x = (on_texts_equal (λ (t : List ℕ). t)).refl x

pub among_from : (ys : List (List ℕ)) (x : List ℕ) → is_among ys x ≡ true → Contains ys x
among_from [] x h = absurd (true≢false (sym h))
among_from (y ∷ ys) x h = by (λ rest. among_from ys x rest) (bytes_eq x y) refl h
  where
    by : (is_among ys x ≡ true → Contains ys x) → (b : Bool) → bytes_eq x y ≡ b → (b || is_among ys x) ≡ true → Contains (y ∷ ys) x
    by later true e h = subst (Contains (y ∷ ys)) (sym (same_text x y (sym e))) (Contains-head y ys)
    by later false e h = Contains-tail y ys x (later h)

pub among : (ys : List (List ℕ)) (x : List ℕ) → Contains ys x → is_among ys x ≡ true
among [] x there = absurd (Contains-nil x there)
among (y ∷ ys) x there = by (λ rest. among ys x rest) (Contains-cons_cases y ys x there)
  where
    by : (Contains ys x → is_among ys x ≡ true) → (y ≡ x) ⊎ Contains ys x → (bytes_eq x y || is_among ys x) ≡ true
    by later (inl same) = ap (λ b. b || is_among ys x) (ap (bytes_eq x) same ∙ bytes_eq-itself x)
    by later (inr rest) = ap (λ b. bytes_eq x y || b) (later rest) ∙ or-true (bytes_eq x y)

pub not_among : (ys : List (List ℕ)) (x : List ℕ) → (Contains ys x → ⊥) → is_among ys x ≡ false
not_among ys x none = by (is_among ys x) refl
  where
    by : (b : Bool) → is_among ys x ≡ b → is_among ys x ≡ false
    by true e = absurd (none (among_from ys x e))
    by false e = e

-- ---- triples at places, by one part

-- the part of each triple is the text at its place
abbrev AreAt : (Numbered → ℕ) → (Triple → List ℕ) → List (List ℕ) → List Numbered → List Triple → Type 0
AreAt f g texts [] [] = Unit {0}
AreAt f g texts [] (t ∷ ts) = ⊥
AreAt f g texts (p ∷ ps) [] = ⊥
AreAt f g texts (p ∷ ps) (t ∷ ts) = (slice_get texts (f p) ≡ Some (g t)) × AreAt f g texts ps ts

-- a part of a triple is at a place of one
at_from_part : (f : Numbered → ℕ) (g : Triple → List ℕ) (texts : List (List ℕ)) (ps : List Numbered) (ts : List Triple) (x : List ℕ) → AreAt f g texts ps ts → Contains (map g ts) x
    → (place : ℕ) × (slice_get texts place ≡ Some x) × (list_any (λ q. eqb (f q) place) ps ≡ true)
at_from_part f g texts [] [] x at there = absurd (Contains-nil x there)
at_from_part f g texts [] (t ∷ ts) x at there = absurd at
at_from_part f g texts (p ∷ ps) [] x at there = absurd at
at_from_part f g texts (p ∷ ps) (t ∷ ts) x at there = by (λ rest. at_from_part f g texts ps ts x at.1 rest) (Contains-cons_cases (g t) (map g ts) x there)
  where
    by : (Contains (map g ts) x → (place : ℕ) × (slice_get texts place ≡ Some x) × (list_any (λ q. eqb (f q) place) ps ≡ true)) → (g t ≡ x) ⊎ Contains (map g ts) x
        → (place : ℕ) × (slice_get texts place ≡ Some x) × (list_any (λ q. eqb (f q) place) (p ∷ ps) ≡ true)
    by later (inl same) = (f p, at.0 ∙ ap Some same, ap (λ b. b || list_any (λ q. eqb (f q) (f p)) ps) (eq-eqb (f p) (f p) refl))
    by later (inr rest) = let found = later rest in (found.0, found.1, ap (λ b. eqb (f p) found.0 || b) found.2 ∙ or-true (eqb (f p) found.0))

-- and a text at a place of a triple is its part
part_from_at : (f : Numbered → ℕ) (g : Triple → List ℕ) (texts : List (List ℕ)) (ps : List Numbered) (ts : List Triple) (x : List ℕ) (place : ℕ) → AreAt f g texts ps ts → slice_get texts place ≡ Some x
    → list_any (λ q. eqb (f q) place) ps ≡ true → Contains (map g ts) x
part_from_at f g texts [] [] x place at here any = absurd (true≢false (sym any))
part_from_at f g texts [] (t ∷ ts) x place at here any = absurd at
part_from_at f g texts (p ∷ ps) [] x place at here any = absurd at
part_from_at f g texts (p ∷ ps) (t ∷ ts) x place at here any = by (λ rest. part_from_at f g texts ps ts x place at.1 here rest) (eqb (f p) place) refl any
  where
    by : (list_any (λ q. eqb (f q) place) ps ≡ true → Contains (map g ts) x) → (b : Bool) → eqb (f p) place ≡ b → (b || list_any (λ q. eqb (f q) place) ps) ≡ true → Contains (g t ∷ map g ts) x
    by later true e any =
        let same : g t ≡ x = same_some (g t) x (sym at.0 ∙ ap (slice_get texts) (eqb-true (f p) place e) ∙ here) in
        subst (Contains (g t ∷ map g ts)) same (Contains-head (g t) (map g ts))
    by later false e any = Contains-tail (g t) (map g ts) x (later any)

subjects_at : (n p : List (List ℕ)) (ps : List Numbered) (ts : List Triple) → AreSeen n p ps ts → AreAt (λ q. q.0) (λ t. t.subject) n ps ts
subjects_at n p [] [] h = tt
subjects_at n p [] (t ∷ ts) h = absurd h
subjects_at n p (q ∷ ps) [] h = absurd h
subjects_at n p (q ∷ ps) (t ∷ ts) h = (h.0.subject, subjects_at n p ps ts h.1)

objects_at : (n p : List (List ℕ)) (ps : List Numbered) (ts : List Triple) → AreSeen n p ps ts → AreAt (λ q. q.2) (λ t. t.object) n ps ts
objects_at n p [] [] h = tt
objects_at n p [] (t ∷ ts) h = absurd h
objects_at n p (q ∷ ps) [] h = absurd h
objects_at n p (q ∷ ps) (t ∷ ts) h = (h.0.object, objects_at n p ps ts h.1)

predicates_at : (n p : List (List ℕ)) (ps : List Numbered) (ts : List Triple) → AreSeen n p ps ts → AreAt (λ q. q.1) (λ t. t.predicate) p ps ts
predicates_at n p [] [] h = tt
predicates_at n p [] (t ∷ ts) h = absurd h
predicates_at n p (q ∷ ps) [] h = absurd h
predicates_at n p (q ∷ ps) (t ∷ ts) h = (h.0.predicate, predicates_at n p ps ts h.1)

-- what is at a place is there
at_Contains : (xs : List (List ℕ)) (i : ℕ) (x : List ℕ) → slice_get xs i ≡ Some x → Contains xs x
at_Contains [] i x at = absurd (cc)
at_Contains (y ∷ xs) zero x at = subst (Contains (y ∷ xs)) (same_some y x at) (Contains-head y xs)
at_Contains (y ∷ xs) (suc i) x at = Contains-tail y xs x (at_Contains xs i x at)

-- ---- in lists where no text is twice

-- a text has one place
pub one_place : (texts : List (List ℕ)) (i j : ℕ) (x : List ℕ) → IsDistinct bytes_eq texts → slice_get texts i ≡ Some x → slice_get texts j ≡ Some x → i ≡ j
unfolding IsDistinct
one_place [] i j x differ at_i at_j = absurd (cc)
one_place (y ∷ ys) zero zero x differ at_i at_j = refl
one_place (y ∷ ys) zero (suc j) x differ at_i at_j = absurd (apart ys j x (same_some y x at_i) differ.0 at_j)
  where
    apart : (zs : List (List ℕ)) (j : ℕ) (x : List ℕ) → y ≡ x → AllByRecursion (λ z. bytes_eq y z ≡ false) zs → slice_get zs j ≡ Some x → ⊥
    apart [] j x same all at = cc
    apart (z ∷ zs) zero x same all at = true≢false (sym (ap (bytes_eq y) (same_some z x at ∙ sym same) ∙ bytes_eq-itself y) ∙ all.0)
    apart (z ∷ zs) (suc j) x same all at = apart zs j x same all.1 at
one_place (y ∷ ys) (suc i) zero x differ at_i at_j = absurd (apart ys i x (same_some y x at_j) differ.0 at_i)
  where
    apart : (zs : List (List ℕ)) (j : ℕ) (x : List ℕ) → y ≡ x → AllByRecursion (λ z. bytes_eq y z ≡ false) zs → slice_get zs j ≡ Some x → ⊥
    apart [] j x same all at = cc
    apart (z ∷ zs) zero x same all at = true≢false (sym (ap (bytes_eq y) (same_some z x at ∙ sym same) ∙ bytes_eq-itself y) ∙ all.0)
    apart (z ∷ zs) (suc j) x same all at = apart zs j x same all.1 at
one_place (y ∷ ys) (suc i) (suc j) x differ at_i at_j = ap suc (one_place ys i j x differ.1 at_i at_j)

-- ---- the groups are the lists of the numbering

-- a group whose test is a test of texts has just the texts that pass
same_group : (texts : List (List ℕ)) (test : ℕ → Bool) (es : List Entry) (q : List ℕ → Bool) (l : List (List ℕ)) → IsGroup texts test es → ((place : ℕ) (x : List ℕ) → slice_get texts place ≡ Some x → test place ≡ q x)
    → ((x : List ℕ) → q x ≡ true → (place : ℕ) × (slice_get texts place ≡ Some x)) → IsStrictlySortedBy text_cmp l → ((x : List ℕ) → Contains l x ↔ (q x ≡ true)) → texts_in es ≡ l
same_group texts test es q l group tests place_for sorted members =
    same_members text_cmp text_cmp-total text_cmp-exact (texts_in es) l group.ascends sorted (λ x. (
      λ there.
          let e = from_map (λ (e : Entry). e.text) es x there in
          let held = group.only e.0 e.1 in
          let here : slice_get texts e.0.place ≡ Some x = held.0 ∙ ap Some e.2 in
          (members x).1 (sym (tests e.0.place x here) ∙ held.1),
      λ there.
          let passed = (members x).0 there in
          let found = place_for x passed in
          Contains-map (λ (e : Entry). e.text) es (record { text = x; place = found.0 }) (group.all found.0 x found.1 (tests found.0 x found.1 ∙ passed)),
    ))

same_bool : (a b : Bool) → (a ≡ true → b ≡ true) → (b ≡ true → a ≡ true) → a ≡ b
same_bool true true f g = refl
same_bool true false f g = sym (f refl)
same_bool false true f g = g refl
same_bool false false f g = refl

both_true : (a b : Bool) → (a && b) ≡ true → (a ≡ true) × (b ≡ true)
both_true true b h = (refl, h)
both_true false b h = absurd (true≢false (sym h))

true_both : (a b : Bool) → a ≡ true → b ≡ true → (a && b) ≡ true
true_both a b ha hb = (λ i. ha i && hb i)

-- a text is in the set of a part exactly where it is the part of a triple
module _ (g : Triple → List ℕ) (ts : List Triple) where
  abbrev pub part_set : List (List ℕ)
  part_set = set_of text_cmp (map g ts)

  in_part : (x : List ℕ) → is_among part_set x ≡ true → Contains (map g ts) x
  in_part x h = ((set_of-is text_cmp text_cmp-total text_cmp-exact (map g ts)).same x).0 (among_from part_set x h)

  pub part_in : (x : List ℕ) → Contains (map g ts) x → is_among part_set x ≡ true
  part_in x there = among part_set x (((set_of-is text_cmp text_cmp-total text_cmp-exact (map g ts)).same x).1 there)

  part_sorted : IsStrictlySortedBy text_cmp part_set
  part_sorted = (set_of-is text_cmp text_cmp-total text_cmp-exact (map g ts)).ascends

  -- the mark of a place is whether its text is such a part
  mark_at : (f : Numbered → ℕ) (texts : List (List ℕ)) (ps : List Numbered) (place : ℕ) (x : List ℕ) → IsDistinct bytes_eq texts → AreAt f g texts ps ts → slice_get texts place ≡ Some x
      → list_any (λ q. eqb (f q) place) ps ≡ is_among part_set x
  mark_at f texts ps place x differ at here = same_bool (list_any (λ q. eqb (f q) place) ps) (is_among part_set x)
      (λ any. part_in x (part_from_at f g texts ps ts x place at here any))
      (λ h.
      let found = at_from_part f g texts ps ts x at (in_part x h) in
      let one = one_place texts found.0 place x differ found.1 here in
      subst (λ n. list_any (λ q. eqb (f q) n) ps ≡ true) one found.2)

  -- and each part has a place
  place_of_part : (f : Numbered → ℕ) (texts : List (List ℕ)) (ps : List Numbered) (x : List ℕ) → AreAt f g texts ps ts → is_among part_set x ≡ true → (place : ℕ) × (slice_get texts place ≡ Some x)
  place_of_part f texts ps x at h = let found = at_from_part f g texts ps ts x at (in_part x h) in (found.0, found.1)

-- which texts a filtered set has
filtered : (l : List (List ℕ)) (p : List ℕ → Bool) (x : List ℕ) → Contains (filter p l) x ↔ ((is_among l x && p x) ≡ true)
filtered l p x = (
  λ there. let found = Contains-filter p l x there in true_both (is_among l x) (p x) (among l x found.0) found.1,
  λ h. let both = both_true (is_among l x) (p x) h in filter-Contains p l x (among_from l x both.0) both.1,
)

and_flips : (a b : Bool) → (a && b) ≡ (b && a)
and_flips true true = refl
and_flips true false = refl
and_flips false true = refl
and_flips false false = refl

-- what was seen and grouped
pub record Held (n p : List (List ℕ)) (ps : List Numbered) (ts : List Triple) (s b o e : List Entry) : Type 0 where
  pub seen : IsSeenWhole n p ps ts
  pub nodes_differ : IsDistinct bytes_eq n
  pub predicates_differ : IsDistinct bytes_eq p
  pub groups : AreGroups n ps s b o
  pub predicates : IsGroup p anywhere e

unfoldable pub terms_held : List Entry → List Entry → List Entry → List Entry → Terms
terms_held s b o e = record { shared = texts_in s; subjects = texts_in b; objects = texts_in o; predicates = texts_in e }

module _ (n p : List (List ℕ)) (ps : List Numbered) (ts : List Triple) (s b o e : List Entry) (h : Held n p ps ts s b o e) where
  abbrev pub is_subject : List ℕ → Bool
  is_subject x = is_among (subject_texts ts) x

  abbrev pub is_object : List ℕ → Bool
  is_object x = is_among (object_texts ts) x

  -- the role of a place is that of its text
  pub role_at : (place : ℕ) (x : List ℕ) → slice_get n place ≡ Some x → role_of ps place ≡ record { subject = is_subject x; object = is_object x }
  role_at place x here = λ i. record {
    subject = mark_at (λ (t : Triple). t.subject) ts (λ (q : Numbered). q.0) n ps place x h.nodes_differ (subjects_at n p ps ts h.seen.seen) here i;
    object = mark_at (λ (t : Triple). t.object) ts (λ (q : Numbered). q.2) n ps place x h.nodes_differ (objects_at n p ps ts h.seen.seen) here i;
  }

  subject_place : (x : List ℕ) → is_subject x ≡ true → (place : ℕ) × (slice_get n place ≡ Some x)
  subject_place x is = place_of_part (λ (t : Triple). t.subject) ts (λ (q : Numbered). q.0) n ps x (subjects_at n p ps ts h.seen.seen) is

  object_place : (x : List ℕ) → is_object x ≡ true → (place : ℕ) × (slice_get n place ≡ Some x)
  object_place x is = place_of_part (λ (t : Triple). t.object) ts (λ (q : Numbered). q.2) n ps x (objects_at n p ps ts h.seen.seen) is

  shared_is : texts_in s ≡ (terms_of ts).shared
  shared_is = same_group n (λ place. is_shared (role_of ps place)) s (λ x. is_subject x && is_object x) (filter (λ x. is_object x) (subject_texts ts)) h.groups.shared_are
      (λ place x here. ap is_shared (role_at place x here))
      (λ x is. subject_place x (both_true (is_subject x) (is_object x) is).0)
      (IsStrictlySortedBy-filter text_cmp (λ x. is_object x) (subject_texts ts) (part_sorted (λ (t : Triple). t.subject) ts))
      (λ x. filtered (subject_texts ts) (λ x. is_object x) x)

  subjects_are : texts_in b ≡ (terms_of ts).subjects
  subjects_are = same_group n (λ place. is_subject_alone (role_of ps place)) b (λ x. is_subject x && not (is_object x)) (filter (λ x. not (is_object x)) (subject_texts ts)) h.groups.subjects_are
      (λ place x here. ap is_subject_alone (role_at place x here))
      (λ x is. subject_place x (both_true (is_subject x) (not (is_object x)) is).0)
      (IsStrictlySortedBy-filter text_cmp (λ x. not (is_object x)) (subject_texts ts) (part_sorted (λ (t : Triple). t.subject) ts))
      (λ x. filtered (subject_texts ts) (λ x. not (is_object x)) x)

  objects_are : texts_in o ≡ (terms_of ts).objects
  objects_are = same_group n (λ place. is_object_alone (role_of ps place)) o (λ x. is_object x && not (is_subject x)) (filter (λ x. not (is_subject x)) (object_texts ts)) h.groups.objects_are
      (λ place x here. ap is_object_alone (role_at place x here) ∙ and_flips (not (is_subject x)) (is_object x))
      (λ x is. object_place x (both_true (is_object x) (not (is_subject x)) is).0)
      (IsStrictlySortedBy-filter text_cmp (λ x. not (is_subject x)) (object_texts ts) (part_sorted (λ (t : Triple). t.object) ts))
      (λ x. filtered (object_texts ts) (λ x. not (is_subject x)) x)

  predicates_are : texts_in e ≡ (terms_of ts).predicates
  predicates_are = same_group p anywhere e (λ x. is_among (predicate_texts ts) x) (predicate_texts ts) h.predicates
      (λ place x here. sym (part_in (λ (t : Triple). t.predicate) ts x (h.seen.only x (at_Contains p place x here))))
      (λ x is. place_of_part (λ (t : Triple). t.predicate) ts (λ (q : Numbered). q.1) p ps x (predicates_at n p ps ts h.seen.seen) is)
      (part_sorted (λ (t : Triple). t.predicate) ts)
      (λ x. ((λ there. among (predicate_texts ts) x there), (λ is. among_from (predicate_texts ts) x is)))

  -- the groups are the terms of the triples
  pub terms_are : terms_held s b o e ≡ terms_of ts
  unfolding terms_held
  terms_are = λ i. record { shared = shared_is i; subjects = subjects_are i; objects = objects_are i; predicates = predicates_are i }
