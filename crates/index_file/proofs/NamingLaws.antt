-- From ordered terms and numbered triples that use them all, the graph that they name has just that numbering.
use Rattle.std.proofs.Common.{◌≡◌, ◌↔◌, ℕ, zero, suc, ◌+◌, ◌<◌, ◌⊎◌, inl, inr, Bool, true, false, cond, not, ◌||◌, bytes_eq, List, [], ◌∷◌, ◌++◌, length, get_or, map, filter, Contains, refl, sym, ap, ◌∙◌, subst, arith, true≢false}
use Rattle.std.proofs.lemmas.List.Elements.{Contains-get_or, Contains-append_cases, Contains-append_left, Contains-append_right}
use Rattle.std.proofs.lemmas.List.{get_or_default}
use Rattle.std.proofs.lemmas.List.Kept.{IsStrictlySortedBy-filter}
use Rattle.std.specs.Cmp.Lexicographic.{same_text}
use Rattle.std.specs.List.Sorted.{IsStrictlySortedBy}
use Rattle.std.specs.declared.cmp.Ordering.TheVariants.{Less}
use Rattle.bm_term.specs.Graph.{triple_cmp, graph_of}
use Rattle.bm_term.specs.SetOf.{set_of}
use Rattle.bm_term.specs.declared.triple.Triple.{Triple}
use Rattle.bm_term.proofs.Elements.{Contains-head, Contains-tail}
use Rattle.bm_term.proofs.TripleOrder.{triple_cmp-total, triple_cmp-exact}
use Rattle.term_numbers.specs.Order.{text_cmp, Numbered, number_cmp}
use Rattle.term_numbers.specs.Numbering.{Terms, subject_texts, predicate_texts, object_texts, is_among, terms_of, all_subjects, all_objects, place_of, numbers_in, named, numbering_of}
use Rattle.term_numbers.proofs.Ascending.{text_cmp-total, text_cmp-exact, number_cmp-total, number_cmp-exact, set_of-is, set_of-same, same_members, member_of_all, not_below_itself}
use Rattle.term_numbers.proofs.EntryLaws.{Contains-filter, filter-Contains}
use Rattle.term_numbers.proofs.NumberingLaws.{from_map, Contains-map, among, among_from, not_among, bytes_eq-itself}
use Rattle.index_file.specs.Conditions.{AreOrdered}

-- ---- texts that differ

-- no text stands twice
abbrev pub Differ : List (List ℕ) → Type 0
Differ [] = Unit {0}
Differ (x ∷ xs) = (Contains xs x → ⊥) × Differ xs

pub Differ-ascending : (xs : List (List ℕ)) → IsStrictlySortedBy text_cmp xs → Differ xs
unfolding IsStrictlySortedBy
Differ-ascending [] h = tt
Differ-ascending (x ∷ xs) h = ((λ there. not_below_itself text_cmp text_cmp-total x (member_of_all (λ y. text_cmp x y ≡ Less) xs h.0 x there)), Differ-ascending xs h.1)

Differ-append : (xs ys : List (List ℕ)) → Differ xs → Differ ys → ((x : List ℕ) → Contains xs x → Contains ys x → ⊥) → Differ (xs ++ ys)
Differ-append [] ys hx hy apart = hy
Differ-append (x ∷ xs) ys hx hy apart =
    ((λ there. by (Contains-append_cases xs ys x there)), Differ-append xs ys hx.1 hy (λ y at_x at_y. apart y (Contains-tail x xs y at_x) at_y))
  where
    by : Contains xs x ⊎ Contains ys x → ⊥
    by (inl before) = hx.0 before
    by (inr after) = apart x (Contains-head x xs) after

-- so a text's place is where it is
pub place_of_differ : (l : List (List ℕ)) (k : ℕ) (x : List ℕ) → Differ l → k < length l → get_or l k [] ≡ x → place_of l x ≡ k
place_of_differ [] k x differ low at = absurd (omega arith)
place_of_differ (y ∷ l) zero x differ low at = ap (λ b. cond (not b) (1 + place_of l x) 0) (ap (bytes_eq x) at ∙ bytes_eq-itself x)
place_of_differ (y ∷ l) (suc k) x differ low at =
    let rest = place_of_differ l k x differ.1 (omega arith) at in
    let there : Contains l x = subst (Contains l) at (Contains-get_or l k [] (omega arith)) in
    by (bytes_eq x y) refl there (omega (arith, rest))
  where
    by : (b : Bool) → bytes_eq x y ≡ b → Contains l x → 1 + place_of l x ≡ suc k → place_of (y ∷ l) x ≡ suc k
    by true e there one = absurd (differ.0 (subst (Contains l) (same_text x y (sym e)) there))
    by false e there one = ap (λ b. cond (not b) (1 + place_of l x) 0) e ∙ one

-- a text that is there has its place in the list
pub place_below : (l : List (List ℕ)) (x : List ℕ) → is_among l x ≡ true → place_of l x < length l
place_below [] x there = absurd (true≢false (sym there))
place_below (y ∷ l) x there = by (bytes_eq x y) (λ rest. place_below l x rest) there
  where
    by : (b : Bool) → (is_among l x ≡ true → place_of l x < length l) → (b || is_among l x) ≡ true → cond (not b) (1 + place_of l x) 0 < length (y ∷ l)
    by true later there = omega arith
    by false later there = omega (arith, later there)

-- the groups of ordered terms that have the numbers of subjects and of objects
pub subjects_differ : (terms : Terms) → AreOrdered terms → Differ (all_subjects terms)
subjects_differ terms ordered = Differ-append terms.shared terms.subjects (Differ-ascending terms.shared ordered.shared) (Differ-ascending terms.subjects ordered.subjects)
    (λ x shared alone. ordered.shared_alone x shared (Contains-append_left terms.subjects terms.objects x alone))

pub objects_differ : (terms : Terms) → AreOrdered terms → Differ (all_objects terms)
objects_differ terms ordered = Differ-append terms.shared terms.objects (Differ-ascending terms.shared ordered.shared) (Differ-ascending terms.objects ordered.objects)
    (λ x shared alone. ordered.shared_alone x shared (Contains-append_right terms.subjects terms.objects x alone))

-- ---- numbered triples that use all terms

-- the numbers are those of terms, and each term has a triple
pub record UseAll (terms : Terms) (ts : List Numbered) : Type 0 where
  pub subject : (t : Numbered) → Contains ts t → t.0 < length (all_subjects terms)
  pub predicate : (t : Numbered) → Contains ts t → t.1 < length terms.predicates
  pub object : (t : Numbered) → Contains ts t → t.2 < length (all_objects terms)
  pub each_subject : (n : ℕ) → n < length (all_subjects terms) → (t : Numbered) × Contains ts t × (t.0 ≡ n)
  pub each_predicate : (n : ℕ) → n < length terms.predicates → (t : Numbered) × Contains ts t × (t.1 ≡ n)
  pub each_object : (n : ℕ) → n < length (all_objects terms) → (t : Numbered) × Contains ts t × (t.2 ≡ n)

-- the graph that they name
abbrev pub graph_named : Terms → List Numbered → List Triple
graph_named terms ts = graph_of (map (named terms) ts)

-- it has the triples that are named
pub graph_is : (terms : Terms) (ts : List Numbered) (u : Triple) → Contains (graph_named terms ts) u ↔ Contains (map (named terms) ts) u
graph_is terms ts u = (set_of-is triple_cmp triple_cmp-total triple_cmp-exact (map (named terms) ts)).same u

-- the texts of one part of the graph are those of the list that its numbers speak of
module _ (terms : Terms) (ts : List Numbered) (l : List (List ℕ)) (f : Numbered → ℕ) (p : Triple → List ℕ) (named_is : (t : Numbered) → p (named terms t) ≡ get_or l (f t) []) (below : (t : Numbered) → Contains ts t → f t < length l) (each : (n : ℕ) → n < length l → (t : Numbered) × Contains ts t × (f t ≡ n)) where
  part_members : (x : List ℕ) → Contains (set_of text_cmp (map p (graph_named terms ts))) x ↔ Contains l x
  part_members x =
      let same = (set_of-is text_cmp text_cmp-total text_cmp-exact (map p (graph_named terms ts))).same x in (
        λ there.
            let u = from_map p (graph_named terms ts) x (same.0 there) in
            let t = from_map (named terms) ts u.0 ((graph_is terms ts u.0).0 u.1) in
            let is : get_or l (f t.0) [] ≡ x = sym (named_is t.0) ∙ ap p t.2 ∙ u.2 in
            subst (Contains l) is (Contains-get_or l (f t.0) [] (below t.0 t.1)),
        λ there.
            let t = each there.0 there.1 in
            let inside = (graph_is terms ts (named terms t.0)).1 (Contains-map (named terms) ts t.0 t.1) in
            let is : p (named terms t.0) ≡ x = named_is t.0 ∙ ap (λ k. get_or l k []) t.2 ∙ get_or_default l there.0 [] x there.1 ∙ there.2 in
            same.1 (subst (Contains (map p (graph_named terms ts))) is (Contains-map p (graph_named terms ts) (named terms t.0) inside)),
      )

-- what is among texts is not what is not
pub no_text : (b : Bool) → not b ≡ true → b ≡ true → ⊥
no_text true n h = true≢false (sym n)
no_text false n h = true≢false (sym h)

module _ (terms : Terms) (ts : List Numbered) (ordered : AreOrdered terms) (use_all : UseAll terms ts) where
  abbrev graph : List Triple
  graph = graph_named terms ts

  in_subjects : (x : List ℕ) → Contains (subject_texts graph) x ↔ Contains (all_subjects terms) x
  in_subjects x = part_members terms ts (all_subjects terms) (λ (t : Numbered). t.0) (λ (u : Triple). u.subject) (λ t. refl) use_all.subject use_all.each_subject x

  in_predicates : (x : List ℕ) → Contains (predicate_texts graph) x ↔ Contains terms.predicates x
  in_predicates x = part_members terms ts terms.predicates (λ (t : Numbered). t.1) (λ (u : Triple). u.predicate) (λ t. refl) use_all.predicate use_all.each_predicate x

  in_objects : (x : List ℕ) → Contains (object_texts graph) x ↔ Contains (all_objects terms) x
  in_objects x = part_members terms ts (all_objects terms) (λ (t : Numbered). t.2) (λ (u : Triple). u.object) (λ t. refl) use_all.object use_all.each_object x

  set_ascends : (xs : List (List ℕ)) → IsStrictlySortedBy text_cmp (set_of text_cmp xs)
  set_ascends xs = (set_of-is text_cmp text_cmp-total text_cmp-exact xs).ascends

  same_texts : (xs ys : List (List ℕ)) → IsStrictlySortedBy text_cmp xs → IsStrictlySortedBy text_cmp ys → ((x : List ℕ) → Contains xs x ↔ Contains ys x) → xs ≡ ys
  same_texts xs ys hx hy same = same_members text_cmp text_cmp-total text_cmp-exact xs ys hx hy same

  shared_again : (terms_of graph).shared ≡ terms.shared
  shared_again =
      let q : List ℕ → Bool = is_among (object_texts graph) in
      same_texts (filter q (subject_texts graph)) terms.shared (IsStrictlySortedBy-filter text_cmp q (subject_texts graph) (set_ascends (map (λ (u : Triple). u.subject) graph))) ordered.shared (λ x. (
        λ there.
            let found = Contains-filter q (subject_texts graph) x there in
            let as_object = (in_objects x).0 (among_from (object_texts graph) x found.1) in
            by x (Contains-append_cases terms.shared terms.subjects x ((in_subjects x).0 found.0)) (Contains-append_cases terms.shared terms.objects x as_object),
        λ there. filter-Contains q (subject_texts graph) x ((in_subjects x).1 (Contains-append_left terms.shared terms.subjects x there)) (among (object_texts graph) x ((in_objects x).1 (Contains-append_left terms.shared terms.objects x there))),
      ))
    where
      by : (x : List ℕ) → Contains terms.shared x ⊎ Contains terms.subjects x → Contains terms.shared x ⊎ Contains terms.objects x → Contains terms.shared x
      by x (inl both) o = both
      by x (inr alone) (inl both) = both
      by x (inr alone) (inr other) = absurd (ordered.subjects_alone x alone other)

  subjects_again : (terms_of graph).subjects ≡ terms.subjects
  subjects_again =
      let q : List ℕ → Bool = λ x. not (is_among (object_texts graph) x) in
      same_texts (filter q (subject_texts graph)) terms.subjects (IsStrictlySortedBy-filter text_cmp q (subject_texts graph) (set_ascends (map (λ (u : Triple). u.subject) graph))) ordered.subjects (λ x. (
        λ there.
            let found = Contains-filter q (subject_texts graph) x there in
            by x found.1 (Contains-append_cases terms.shared terms.subjects x ((in_subjects x).0 found.0)),
        λ there. filter-Contains q (subject_texts graph) x ((in_subjects x).1 (Contains-append_right terms.shared terms.subjects x there)) (ap not (not_among (object_texts graph) x (λ object. apart x there (Contains-append_cases terms.shared terms.objects x ((in_objects x).0 object))))),
      ))
    where
      by : (x : List ℕ) → not (is_among (object_texts graph) x) ≡ true → Contains terms.shared x ⊎ Contains terms.subjects x → Contains terms.subjects x
      by x none (inl both) = absurd (no_text (is_among (object_texts graph) x) none (among (object_texts graph) x ((in_objects x).1 (Contains-append_left terms.shared terms.objects x both))))
      by x none (inr alone) = alone

      apart : (x : List ℕ) → Contains terms.subjects x → Contains terms.shared x ⊎ Contains terms.objects x → ⊥
      apart x alone (inl both) = ordered.shared_alone x both (Contains-append_left terms.subjects terms.objects x alone)
      apart x alone (inr other) = ordered.subjects_alone x alone other

  objects_again : (terms_of graph).objects ≡ terms.objects
  objects_again =
      let q : List ℕ → Bool = λ x. not (is_among (subject_texts graph) x) in
      same_texts (filter q (object_texts graph)) terms.objects (IsStrictlySortedBy-filter text_cmp q (object_texts graph) (set_ascends (map (λ (u : Triple). u.object) graph))) ordered.objects (λ x. (
        λ there.
            let found = Contains-filter q (object_texts graph) x there in
            by x found.1 (Contains-append_cases terms.shared terms.objects x ((in_objects x).0 found.0)),
        λ there. filter-Contains q (object_texts graph) x ((in_objects x).1 (Contains-append_right terms.shared terms.objects x there)) (ap not (not_among (subject_texts graph) x (λ subject. apart x there (Contains-append_cases terms.shared terms.subjects x ((in_subjects x).0 subject))))),
      ))
    where
      by : (x : List ℕ) → not (is_among (subject_texts graph) x) ≡ true → Contains terms.shared x ⊎ Contains terms.objects x → Contains terms.objects x
      by x none (inl both) = absurd (no_text (is_among (subject_texts graph) x) none (among (subject_texts graph) x ((in_subjects x).1 (Contains-append_left terms.shared terms.subjects x both))))
      by x none (inr alone) = alone

      apart : (x : List ℕ) → Contains terms.objects x → Contains terms.shared x ⊎ Contains terms.subjects x → ⊥
      apart x alone (inl both) = ordered.shared_alone x both (Contains-append_right terms.subjects terms.objects x alone)
      apart x alone (inr other) = ordered.subjects_alone x other alone

  predicates_again : (terms_of graph).predicates ≡ terms.predicates
  predicates_again = same_texts (predicate_texts graph) terms.predicates (set_ascends (map (λ (u : Triple). u.predicate) graph)) ordered.predicates in_predicates

  -- the terms of the graph are these
  pub terms_again : terms_of graph ≡ terms
  terms_again = λ i. record { shared = shared_again i; subjects = subjects_again i; objects = objects_again i; predicates = predicates_again i }

  -- the numbers of a named triple are those that named it
  pub numbered_again : (t : Numbered) → Contains ts t → numbers_in terms (named terms t) ≡ t
  numbered_again t there =
      let s = place_of_differ (all_subjects terms) t.0 (get_or (all_subjects terms) t.0 []) (subjects_differ terms ordered) (use_all.subject t there) refl in
      let p = place_of_differ terms.predicates t.1 (get_or terms.predicates t.1 []) (Differ-ascending terms.predicates ordered.predicates) (use_all.predicate t there) refl in
      let o = place_of_differ (all_objects terms) t.2 (get_or (all_objects terms) t.2 []) (objects_differ terms ordered) (use_all.object t there) refl in
      λ i. (s i, p i, o i)

  in_numbers : (t : Numbered) → Contains (map (numbers_in terms) graph) t ↔ Contains ts t
  in_numbers t = (
    λ there.
        let u = from_map (numbers_in terms) graph t there in
        let v = from_map (named terms) ts u.0 ((graph_is terms ts u.0).0 u.1) in
        let is : v.0 ≡ t = sym (numbered_again v.0 v.1) ∙ ap (numbers_in terms) v.2 ∙ u.2 in
        subst (Contains ts) is v.1,
    λ there. subst (Contains (map (numbers_in terms) graph)) (numbered_again t there) (Contains-map (numbers_in terms) graph (named terms t) ((graph_is terms ts (named terms t)).1 (Contains-map (named terms) ts t there))),
  )

  -- so the numbering of the graph is these terms and these triples, in order
  pub numbering_of-graph_named : numbering_of graph ≡ record { terms = terms; triples = set_of number_cmp ts }
  numbering_of-graph_named =
      let triples : set_of number_cmp (map (numbers_in (terms_of graph)) graph) ≡ set_of number_cmp ts =
      ap (λ w. set_of number_cmp (map (numbers_in w) graph)) terms_again ∙ set_of-same number_cmp number_cmp-total number_cmp-exact (map (numbers_in terms) graph) ts in_numbers in
      λ i. record { terms = terms_again i; triples = triples i }
