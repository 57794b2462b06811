-- The numbers that are written are those of the numbering, and there are as many triples as the graph has.
use Rattle.std.proofs.Common.{◌≡◌, ◌↔◌, ℕ, zero, suc, ◌+◌, ◌<◌, Bool, true, false, cond, not, bytes_eq, List, [], ◌∷◌, ◌++◌, Some, Contains, length, get_or, slice_index, map, filter, ◌&&◌, ◌||◌, refl, sym, ap, ◌∙◌, subst, arith, true≢false, zero-add}
use Rattle.std.proofs.lemmas.Cmp.{tied_itself}
use Rattle.std.proofs.lemmas.List.{length-map, get_or-map}
use Rattle.std.proofs.lemmas.List.Elements.{Contains-get_or, Contains-append_left, Contains-append_right}
use Rattle.std.proofs.lemmas.Option.{slice_get-get_or, get_or_from_slice_get}
use Rattle.std.specs.Cmp.Lexicographic.{same_text}
use Rattle.std.specs.List.{slice_get, IsDistinct, AllByRecursion}
use Rattle.std.specs.List.Sorted.{IsStrictlySortedBy}
use Rattle.std.specs.declared.cmp.Ordering.TheVariants.{Less, Equal}
use Rattle.bm_term.specs.Graph.{triple_cmp, graph_of}
use Rattle.bm_term.specs.SetOf.{IsSetOf, set_of}
use Rattle.bm_term.specs.declared.triple.Triple.{Triple}
use Rattle.bm_term.proofs.Sets.{one_set}
use Rattle.bm_term.proofs.Elements.{Contains-head, Contains-tail}
use Rattle.bm_term.proofs.TripleOrder.{triple_cmp-total, triple_cmp-exact}
use Rattle.term_numbers.specs.Order.{text_cmp, Numbered, number_cmp}
use Rattle.term_numbers.specs.Numbering.{Terms, subject_texts, predicate_texts, object_texts, is_among, terms_of, all_subjects, all_objects, place_of, numbers_in, named, numbering_of}
use Rattle.term_numbers.specs.declared.entry.Entry.{Entry}
use Rattle.term_numbers.specs.declared.role.Role.{Role}
use Rattle.term_numbers.specs.held.Entries.{texts_in, is_shared, is_subject_alone, is_object_alone, IsGroup, AreGroups, AreNumbered, anywhere}
use Rattle.term_numbers.specs.held.Numbered.{NodesHave, AreByNumber, MayBeNumbered}
use Rattle.term_numbers.specs.held.Renumbered.{renumbered}
use Rattle.term_numbers.specs.held.Seen.{IsSeen, AreSeen, role_of}
use Rattle.term_numbers.proofs.Ascending.{text_cmp-total, text_cmp-exact, number_cmp-total, number_cmp-exact, set_of-is, set_of-same, length-set_of}
use Rattle.term_numbers.proofs.EntryLaws.{same_some, place_inside, filter-Contains, PlacesDiffer-group}
use Rattle.term_numbers.proofs.NumberingLaws.{from_map, Contains-map, map-same, among, among_from, not_among, bytes_eq-itself, one_place, part_in, Held, terms_held, terms_are, role_at}

-- ---- places in lists

-- in a list that ascends a text's place is where it is
place_of_sorted : (l : List (List ℕ)) (k : ℕ) (x : List ℕ) → IsStrictlySortedBy text_cmp l → slice_get l k ≡ Some x → place_of l x ≡ k
unfolding IsStrictlySortedBy
place_of_sorted [] k x sorted at = absurd (cc)
place_of_sorted (y ∷ l) zero x sorted at = ap (λ b. cond (not b) (1 + place_of l x) 0) (ap (bytes_eq x) (same_some y x at) ∙ bytes_eq-itself x)
place_of_sorted (y ∷ l) (suc k) x sorted at =
    let rest = place_of_sorted l k x sorted.1 at in
    ap (λ b. cond (not b) (1 + place_of l x) 0) (other (bytes_eq x y) refl (below l k sorted.0 at)) ∙ omega (arith, rest)
  where
    below : (zs : List (List ℕ)) (j : ℕ) → AllByRecursion (λ z. text_cmp y z ≡ Less) zs → slice_get zs j ≡ Some x → text_cmp y x ≡ Less
    below [] j all at = absurd (cc)
    below (z ∷ zs) zero all at = subst (λ z. text_cmp y z ≡ Less) (same_some z x at) all.0
    below (z ∷ zs) (suc j) all at = below zs j all.1 at

    clash : text_cmp y y ≡ Less → text_cmp y y ≡ Equal → ⊥
    clash less tie = cc

    other : (b : Bool) → bytes_eq x y ≡ b → text_cmp y x ≡ Less → bytes_eq x y ≡ false
    other false e less = e
    other true e less = let tie = tied_itself text_cmp-total y in let same : x ≡ y = same_text x y (sym e) in absurd (clash (subst (λ z. text_cmp y z ≡ Less) same less) tie)

-- in two lists in a row a text's place is that in the first list
place_of-first : (l m : List (List ℕ)) (x : List ℕ) → is_among l x ≡ true → place_of (l ++ m) x ≡ place_of l x
place_of-first [] m x there = absurd (true≢false (sym there))
place_of-first (y ∷ l) m x there = by (bytes_eq x y) (λ rest. place_of-first l m x rest) refl there
  where
    by : (b : Bool) → (is_among l x ≡ true → place_of (l ++ m) x ≡ place_of l x) → bytes_eq x y ≡ b → (b || is_among l x) ≡ true → cond (not b) (1 + place_of (l ++ m) x) 0 ≡ cond (not b) (1 + place_of l x) 0
    by true later e there = refl
    by false later e there = ap (λ k. 1 + k) (later there)

-- or in the second, where the first does not have it
place_of-second : (l m : List (List ℕ)) (x : List ℕ) → is_among l x ≡ false → place_of (l ++ m) x ≡ length l + place_of m x
place_of-second [] m x none = sym (zero-add (place_of m x))
place_of-second (y ∷ l) m x none = by (bytes_eq x y) (λ rest. place_of-second l m x rest) none
  where
    by : (b : Bool) → (is_among l x ≡ false → place_of (l ++ m) x ≡ length l + place_of m x) → (b || is_among l x) ≡ false → cond (not b) (1 + place_of (l ++ m) x) 0 ≡ length (y ∷ l) + place_of m x
    by true later none = absurd (true≢false none)
    by false later none = let rest = later none in omega (arith, rest)

-- a text that is among texts is at its place
at_place : (l : List (List ℕ)) (x : List ℕ) → is_among l x ≡ true → slice_get l (place_of l x) ≡ Some x
at_place [] x there = absurd (true≢false (sym there))
at_place (y ∷ l) x there = by (bytes_eq x y) refl (λ rest. at_place l x rest) there
  where
    one_more : (k : ℕ) → 1 + k ≡ suc k
    one_more k = omega arith

    by : (b : Bool) → bytes_eq x y ≡ b → (is_among l x ≡ true → slice_get l (place_of l x) ≡ Some x) → (b || is_among l x) ≡ true → slice_get (y ∷ l) (cond (not b) (1 + place_of l x) 0) ≡ Some x
    by true e later there = ap Some (sym (same_text x y (sym e)))
    by false e later there = subst (λ k. slice_get (y ∷ l) k ≡ Some x) (sym (one_more (place_of l x))) (later there)

-- ---- the numbers of groups

-- the number of a text of a group
group_number : (texts : List (List ℕ)) (test : ℕ → Bool) (es : List Entry) (first place : ℕ) (x : List ℕ) (old new : List ℕ) → IsGroup texts test es → AreNumbered es (length es) first old new
    → slice_get texts place ≡ Some x → test place ≡ true → slice_get new place ≡ Some (first + place_of (texts_in es) x)
group_number texts test es first place x old new group have here passed =
    let e : Entry = record { text = x; place = place } in
    let there = group.all place x here passed in
    let k : ℕ = there.0 in
    let low : k < length es = there.1 in
    let at_k : get_or es k e ≡ e = there.2 in
    let number = have.numbered k e low in
    let wide : length (texts_in es) ≡ length es = length-map es (λ (u : Entry). u.text) in
    let text : slice_get (texts_in es) k ≡ Some x = slice_get-get_or (texts_in es) k x (omega arith) ∙ ap Some (get_or-map (λ (u : Entry). u.text) es k e x low ∙ ap (λ (u : Entry). u.text) at_k) in
    let is : place_of (texts_in es) x ≡ k = place_of_sorted (texts_in es) k x group.ascends text in
    ap (λ (u : Entry). slice_get new u.place) (sym at_k) ∙ number ∙ ap (λ j. Some (first + j)) (sym is)

-- the numbers of other places stay
group_others : (texts : List (List ℕ)) (test : ℕ → Bool) (es : List Entry) (first place : ℕ) (old new : List ℕ) → IsGroup texts test es → AreNumbered es (length es) first old new → test place ≡ false → slice_get new place ≡ slice_get old place
group_others texts test es first place old new group have failed =
    have.others place (λ k d low same.
    let held = (group.only (get_or es k d) (Contains-get_or es k d low)).1 in
    true≢false (sym held ∙ ap test same ∙ failed))

-- a text is not in a group whose test fails at its place
not_in_group : (texts : List (List ℕ)) (test : ℕ → Bool) (es : List Entry) (place : ℕ) (x : List ℕ) → IsDistinct bytes_eq texts → IsGroup texts test es → slice_get texts place ≡ Some x → test place ≡ false → is_among (texts_in es) x ≡ false
not_in_group texts test es place x differ group here failed = not_among (texts_in es) x (λ there.
    let e = from_map (λ (u : Entry). u.text) es x there in
    let held = group.only e.0 e.1 in
    let one : e.0.place ≡ place = one_place texts e.0.place place x differ (held.0 ∙ ap Some e.2) here in
    true≢false (sym held.1 ∙ ap test one ∙ failed))

-- it is in the group whose test passes
in_group : (texts : List (List ℕ)) (test : ℕ → Bool) (es : List Entry) (place : ℕ) (x : List ℕ) → IsGroup texts test es → slice_get texts place ≡ Some x → test place ≡ true → is_among (texts_in es) x ≡ true
in_group texts test es place x group here passed = among (texts_in es) x (Contains-map (λ (u : Entry). u.text) es (record { text = x; place = place }) (group.all place x here passed))

pub MayBeNumbered-group : (texts : List (List ℕ)) (test : ℕ → Bool) (es : List Entry) → IsGroup texts test es → MayBeNumbered (length texts) es
MayBeNumbered-group texts test es group = record {
  differ = PlacesDiffer-group texts test es group;
  below = λ k d low. let e : Entry = get_or es k d in place_inside texts e.place e.text (group.only e (Contains-get_or es k d low)).0;
}

module _ (n : List (List ℕ)) (ps : List Numbered) (s b o : List Entry) (numbers : List ℕ) (differ : IsDistinct bytes_eq n) (g : AreGroups n ps s b o) (have : NodesHave s b o numbers) (place : ℕ) (x : List ℕ) (here : slice_get n place ≡ Some x) where
  -- the number of a node that is subject and object
  shared_number : is_shared (role_of ps place) ≡ true → slice_get numbers place ≡ Some (place_of (texts_in s) x)
  shared_number both =
      let role = exclusive (role_of ps place) both in
      group_others n (λ k. is_object_alone (role_of ps k)) o (length s) place have.after_subjects numbers g.objects_are have.objects_have role.1
      ∙ group_others n (λ k. is_subject_alone (role_of ps k)) b (length s) place have.after_shared have.after_subjects g.subjects_are have.subjects_have role.0
      ∙ group_number n (λ k. is_shared (role_of ps k)) s 0 place x have.before have.after_shared g.shared_are have.shared_have here both
      ∙ ap Some (zero-add (place_of (texts_in s) x))
    where
      by : (a c : Bool) → (a && c) ≡ true → ((a && not c) ≡ false) × ((not a && c) ≡ false)
      by true true h = (refl, refl)
      by true false h = absurd (true≢false (sym h))
      by false c h = absurd (true≢false (sym h))

      exclusive : (r : Role) → is_shared r ≡ true → (is_subject_alone r ≡ false) × (is_object_alone r ≡ false)
      exclusive r h = by r.subject r.object h

  subject_number : (role_of ps place).subject ≡ true → slice_get numbers place ≡ Some (place_of (texts_in s ++ texts_in b) x)
  subject_number is = by (role_of ps place).object refl
    where
      by : (c : Bool) → (role_of ps place).object ≡ c → slice_get numbers place ≡ Some (place_of (texts_in s ++ texts_in b) x)
      by true e =
          let both : is_shared (role_of ps place) ≡ true = λ i. is i && e i in
          shared_number both ∙ ap Some (sym (place_of-first (texts_in s) (texts_in b) x (in_group n (λ k. is_shared (role_of ps k)) s place x g.shared_are here both)))
      by false e =
          let alone : is_subject_alone (role_of ps place) ≡ true = λ i. is i && not (e i) in
          let not_shared : is_shared (role_of ps place) ≡ false = λ i. is i && e i in
          let not_object : is_object_alone (role_of ps place) ≡ false = λ i. not (is i) && e i in
          let wide : length (texts_in s) ≡ length s = length-map s (λ (u : Entry). u.text) in
          group_others n (λ k. is_object_alone (role_of ps k)) o (length s) place have.after_subjects numbers g.objects_are have.objects_have not_object
          ∙ group_number n (λ k. is_subject_alone (role_of ps k)) b (length s) place x have.after_shared have.after_subjects g.subjects_are have.subjects_have here alone
          ∙ ap Some (ap (λ k. k + place_of (texts_in b) x) (sym wide) ∙ sym (place_of-second (texts_in s) (texts_in b) x (not_in_group n (λ k. is_shared (role_of ps k)) s place x differ g.shared_are here not_shared)))

  object_number : (role_of ps place).object ≡ true → slice_get numbers place ≡ Some (place_of (texts_in s ++ texts_in o) x)
  object_number is = by (role_of ps place).subject refl
    where
      by : (a : Bool) → (role_of ps place).subject ≡ a → slice_get numbers place ≡ Some (place_of (texts_in s ++ texts_in o) x)
      by true e =
          let both : is_shared (role_of ps place) ≡ true = λ i. e i && is i in
          shared_number both ∙ ap Some (sym (place_of-first (texts_in s) (texts_in o) x (in_group n (λ k. is_shared (role_of ps k)) s place x g.shared_are here both)))
      by false e =
          let alone : is_object_alone (role_of ps place) ≡ true = λ i. not (e i) && is i in
          let not_shared : is_shared (role_of ps place) ≡ false = λ i. e i && is i in
          let wide : length (texts_in s) ≡ length s = length-map s (λ (u : Entry). u.text) in
          group_number n (λ k. is_object_alone (role_of ps k)) o (length s) place x have.after_subjects numbers g.objects_are have.objects_have here alone
          ∙ ap Some (ap (λ k. k + place_of (texts_in o) x) (sym wide) ∙ sym (place_of-second (texts_in s) (texts_in o) x (not_in_group n (λ k. is_shared (role_of ps k)) s place x differ g.shared_are here not_shared)))

-- ---- the triples

read : (xs : List ℕ) (i v : ℕ) → slice_get xs i ≡ Some v → slice_index xs i ≡ v
read xs i v at = get_or_from_slice_get xs i v 0 at

module _ (n p : List (List ℕ)) (ps : List Numbered) (ts : List Triple) (s b o e : List Entry) (h : Held n p ps ts s b o e) (ids : List Numbered) (made : AreByNumber s b o e ps ids) where
  abbrev to_number : Numbered → Numbered
  to_number q = renumbered made.node_numbers made.predicate_numbers q

  -- the numbers of one triple
  one_number : (q : Numbered) (t : Triple) → IsSeen n p q t → Contains ts t → to_number q ≡ numbers_in (terms_held s b o e) t
  unfolding terms_held
  one_number q t seen there =
      let subject_is = ap (λ (r : Role). r.subject) (role_at n p ps ts s b o e h q.0 t.subject seen.subject) ∙ part_in (λ (u : Triple). u.subject) ts t.subject (Contains-map (λ (u : Triple). u.subject) ts t there) in
      let object_is = ap (λ (r : Role). r.object) (role_at n p ps ts s b o e h q.2 t.object seen.object) ∙ part_in (λ (u : Triple). u.object) ts t.object (Contains-map (λ (u : Triple). u.object) ts t there) in
      let subject = read made.node_numbers q.0 (place_of (texts_in s ++ texts_in b) t.subject) (subject_number n ps s b o made.node_numbers h.nodes_differ h.groups made.nodes_have q.0 t.subject seen.subject subject_is) in
      let object = read made.node_numbers q.2 (place_of (texts_in s ++ texts_in o) t.object) (object_number n ps s b o made.node_numbers h.nodes_differ h.groups made.nodes_have q.2 t.object seen.object object_is) in
      let predicate = read made.predicate_numbers q.1 (place_of (texts_in e) t.predicate) (group_number p anywhere e 0 q.1 t.predicate made.predicates_before made.predicate_numbers h.predicates made.predicates_have seen.predicate refl ∙ ap Some (zero-add (place_of (texts_in e) t.predicate))) in
      λ i. (subject i, predicate i, object i)

  -- and of all
  all_numbers : (qs : List Numbered) (us : List Triple) → AreSeen n p qs us → ((t : Triple) → Contains us t → Contains ts t) → map to_number qs ≡ map (numbers_in (terms_held s b o e)) us
  all_numbers [] [] seen within = refl
  all_numbers [] (u ∷ us) seen within = absurd seen
  all_numbers (q ∷ qs) [] seen within = absurd seen
  all_numbers (q ∷ qs) (u ∷ us) seen within =
      let first = one_number q u seen.0 (within u (Contains-head u us)) in
      let rest = all_numbers qs us seen.1 (λ t there. within t (Contains-tail u us t there)) in
      λ i. first i ∷ rest i

-- ---- the graph

graph_members : (ts : List Triple) (t : Triple) → Contains ts t ↔ Contains (graph_of ts) t
graph_members ts t = let is = (set_of-is triple_cmp triple_cmp-total triple_cmp-exact ts).same t in (is.1, is.0)

-- the terms of triples are those of their graph
terms_of-graph : (ts : List Triple) → terms_of ts ≡ terms_of (graph_of ts)
terms_of-graph ts =
    let subjects : subject_texts ts ≡ subject_texts (graph_of ts) = set_of-same text_cmp text_cmp-total text_cmp-exact (map (λ (t : Triple). t.subject) ts) (map (λ (t : Triple). t.subject) (graph_of ts)) (map-same (λ (t : Triple). t.subject) ts (graph_of ts) (graph_members ts)) in
    let predicates : predicate_texts ts ≡ predicate_texts (graph_of ts) = set_of-same text_cmp text_cmp-total text_cmp-exact (map (λ (t : Triple). t.predicate) ts) (map (λ (t : Triple). t.predicate) (graph_of ts)) (map-same (λ (t : Triple). t.predicate) ts (graph_of ts) (graph_members ts)) in
    let objects : object_texts ts ≡ object_texts (graph_of ts) = set_of-same text_cmp text_cmp-total text_cmp-exact (map (λ (t : Triple). t.object) ts) (map (λ (t : Triple). t.object) (graph_of ts)) (map-same (λ (t : Triple). t.object) ts (graph_of ts) (graph_members ts)) in
    λ i. terms_from (subjects i) (predicates i) (objects i)
  where
    terms_from : List (List ℕ) → List (List ℕ) → List (List ℕ) → Terms
    terms_from ss ps os = record {
      shared = filter (λ x. is_among os x) ss;
      subjects = filter (λ x. not (is_among os x)) ss;
      objects = filter (λ x. not (is_among ss x)) os;
      predicates = ps;
    }

-- what was seen, grouped and numbered is the numbering of the graph
pub numbering_is : (n p : List (List ℕ)) (ps : List Numbered) (ts : List Triple) (s b o e : List Entry) (ids : List Numbered) → Held n p ps ts s b o e → AreByNumber s b o e ps ids
    → record { terms = terms_held s b o e; triples = ids } ≡ numbering_of (graph_of ts)
numbering_is n p ps ts s b o e ids h made =
    let terms : terms_held s b o e ≡ terms_of (graph_of ts) = terms_are n p ps ts s b o e h ∙ terms_of-graph ts in
    let numbers : ids ≡ set_of number_cmp (map (numbers_in (terms_held s b o e)) ts) = made.triples_are ∙ ap (set_of number_cmp) (all_numbers n p ps ts s b o e h ids made ps ts h.seen.seen (λ t there. there)) in
    let of_graph : set_of number_cmp (map (numbers_in (terms_held s b o e)) ts) ≡ set_of number_cmp (map (numbers_in (terms_held s b o e)) (graph_of ts)) =
    set_of-same number_cmp number_cmp-total number_cmp-exact (map (numbers_in (terms_held s b o e)) ts) (map (numbers_in (terms_held s b o e)) (graph_of ts)) (map-same (numbers_in (terms_held s b o e)) ts (graph_of ts) (graph_members ts)) in
    let triples : ids ≡ set_of number_cmp (map (numbers_in (terms_of (graph_of ts))) (graph_of ts)) = numbers ∙ of_graph ∙ ap (λ w. set_of number_cmp (map (numbers_in w) (graph_of ts))) terms in
    λ i. record { terms = terms i; triples = triples i }

-- ---- as many triples by numbers as there are

-- a text of a set is in one of the two lists into which a test cuts it
in_either : (l : List (List ℕ)) (q : List ℕ → Bool) (x : List ℕ) → is_among l x ≡ true → is_among (filter q l ++ filter (λ y. not (q y)) l) x ≡ true
in_either l q x there = by (q x) refl
  where
    by : (b : Bool) → q x ≡ b → is_among (filter q l ++ filter (λ y. not (q y)) l) x ≡ true
    by true e = among (filter q l ++ filter (λ y. not (q y)) l) x (Contains-append_left (filter q l) (filter (λ y. not (q y)) l) x (filter-Contains q l x (among_from l x there) e))
    by false e = among (filter q l ++ filter (λ y. not (q y)) l) x (Contains-append_right (filter q l) (filter (λ y. not (q y)) l) x (filter-Contains (λ y. not (q y)) l x (among_from l x there) (ap not e)))

module _ (g : List Triple) where
  abbrev terms : Terms
  terms = terms_of g

  subject_there : (t : Triple) → Contains g t → is_among (all_subjects terms) t.subject ≡ true
  subject_there t there = in_either (subject_texts g) (λ x. is_among (object_texts g) x) t.subject (part_in (λ (u : Triple). u.subject) g t.subject (Contains-map (λ (u : Triple). u.subject) g t there))

  predicate_there : (t : Triple) → Contains g t → is_among terms.predicates t.predicate ≡ true
  predicate_there t there = part_in (λ (u : Triple). u.predicate) g t.predicate (Contains-map (λ (u : Triple). u.predicate) g t there)

  object_there : (t : Triple) → Contains g t → is_among (all_objects terms) t.object ≡ true
  object_there t there =
      let is = part_in (λ (u : Triple). u.object) g t.object (Contains-map (λ (u : Triple). u.object) g t there) in
      by (is_among (subject_texts g) t.object) refl is
    where
      by : (b : Bool) → is_among (subject_texts g) t.object ≡ b → is_among (object_texts g) t.object ≡ true → is_among (all_objects terms) t.object ≡ true
      by true e is = among (all_objects terms) t.object (Contains-append_left terms.shared terms.objects t.object (filter-Contains (λ x. is_among (object_texts g) x) (subject_texts g) t.object (among_from (subject_texts g) t.object e) is))
      by false e is = among (all_objects terms) t.object (Contains-append_right terms.shared terms.objects t.object (filter-Contains (λ x. not (is_among (subject_texts g) x)) (object_texts g) t.object (among_from (object_texts g) t.object is) (ap not e)))

  -- the numbers of a triple of the graph name it again
  pub named-numbers : (t : Triple) → Contains g t → named terms (numbers_in terms t) ≡ t
  named-numbers t there =
      let s = get_or_from_slice_get (all_subjects terms) (place_of (all_subjects terms) t.subject) t.subject [] (at_place (all_subjects terms) t.subject (subject_there t there)) in
      let p = get_or_from_slice_get terms.predicates (place_of terms.predicates t.predicate) t.predicate [] (at_place terms.predicates t.predicate (predicate_there t there)) in
      let o = get_or_from_slice_get (all_objects terms) (place_of (all_objects terms) t.object) t.object [] (at_place (all_objects terms) t.object (object_there t there)) in
      λ i. record { subject = s i; predicate = p i; object = o i }

-- as many numbered triples as there are triples in the graph
pub as_many : (g : List Triple) → IsStrictlySortedBy triple_cmp g → length (numbering_of g).triples ≡ length g
as_many g sorted =
    let f : Triple → Numbered = numbers_in (terms_of g) in
    let h : Numbered → Triple = named (terms_of g) in
    let numbers : List Numbered = set_of number_cmp (map f g) in
    let is : IsSetOf number_cmp (map f g) numbers = set_of-is number_cmp number_cmp-total number_cmp-exact (map f g) in
    let back : IsSetOf triple_cmp (map h numbers) g = record {
      ascends = sorted;
      same = λ t. (
        λ there. subst (Contains (map h numbers)) (named-numbers g t there) (Contains-map h numbers (f t) ((is.same (f t)).1 (Contains-map f g t there))),
        λ there.
            let n = from_map h numbers t there in
            let u = from_map f g n.0 ((is.same n.0).0 n.1) in
            let one : u.0 ≡ t = sym (named-numbers g u.0 u.1) ∙ ap h u.2 ∙ n.2 in
            subst (Contains g) one u.1,
      );
    } in
    let again : g ≡ set_of triple_cmp (map h numbers) = one_set triple_cmp triple_cmp-total triple_cmp-exact (map h numbers) g back in
    omega (arith, length-set_of number_cmp (map f g), length-map g f, length-set_of triple_cmp (map h numbers), ap length again, length-map numbers h)
