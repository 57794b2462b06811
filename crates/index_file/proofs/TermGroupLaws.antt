-- The terms of a graph are ordered, its numbered triples use them all, and these name the graph again.
use Rattle.std.proofs.Common.{◌≡◌, ◌↔◌, ℕ, ◌<◌, ◌⊎◌, inl, inr, Bool, true, false, not, List, [], ◌++◌, length, get_or, map, filter, Contains, refl, sym, ap, ◌∙◌, subst, arith}
use Rattle.std.proofs.lemmas.List.Elements.{Contains-get_or, Contains-append_cases, Contains-append_left, Contains-append_right}
use Rattle.std.proofs.lemmas.List.Kept.{IsStrictlySortedBy-filter}
use Rattle.std.specs.List.Sorted.{IsStrictlySortedBy}
use Rattle.bm_term.specs.Graph.{triple_cmp}
use Rattle.bm_term.specs.SetOf.{set_of}
use Rattle.bm_term.specs.declared.triple.Triple.{Triple}
use Rattle.bm_term.proofs.TripleOrder.{triple_cmp-total, triple_cmp-exact}
use Rattle.term_numbers.specs.Order.{text_cmp, Numbered, number_cmp}
use Rattle.term_numbers.specs.Numbering.{subject_texts, object_texts, is_among, terms_of, all_subjects, all_objects, place_of, numbers_in, named, numbering_of}
use Rattle.term_numbers.proofs.Ascending.{text_cmp-total, text_cmp-exact, number_cmp-total, number_cmp-exact, set_of-is, same_members}
use Rattle.term_numbers.proofs.EntryLaws.{Contains-filter, filter-Contains}
use Rattle.term_numbers.proofs.NumberLaws.{named-numbers}
use Rattle.term_numbers.proofs.NumberingLaws.{from_map, Contains-map, among, among_from}
use Rattle.index_file.proofs.NamingLaws.{Differ, Differ-ascending, subjects_differ, objects_differ, place_below, place_of_differ, UseAll, graph_named, graph_is, no_text}
use Rattle.index_file.specs.Conditions.{AreOrdered}

-- ---- the groups are ordered

set_ascends : (xs : List (List ℕ)) → IsStrictlySortedBy text_cmp (set_of text_cmp xs)
set_ascends xs = (set_of-is text_cmp text_cmp-total text_cmp-exact xs).ascends

module _ (g : List Triple) where
  abbrev is_subject : List ℕ → Bool
  is_subject x = is_among (subject_texts g) x

  abbrev is_object : List ℕ → Bool
  is_object x = is_among (object_texts g) x

  object_alone : (x : List ℕ) → Contains (terms_of g).objects x → Contains (subject_texts g) x → ⊥
  object_alone x other there = no_text (is_subject x) (Contains-filter (λ y. not (is_subject y)) (object_texts g) x other).1 (among (subject_texts g) x there)

  pub AreOrdered-terms_of : AreOrdered (terms_of g)
  AreOrdered-terms_of = record {
    shared = IsStrictlySortedBy-filter text_cmp is_object (subject_texts g) (set_ascends (map (λ (u : Triple). u.subject) g));
    subjects = IsStrictlySortedBy-filter text_cmp (λ x. not (is_object x)) (subject_texts g) (set_ascends (map (λ (u : Triple). u.subject) g));
    objects = IsStrictlySortedBy-filter text_cmp (λ x. not (is_subject x)) (object_texts g) (set_ascends (map (λ (u : Triple). u.object) g));
    predicates = set_ascends (map (λ (u : Triple). u.predicate) g);
    shared_alone = λ x both there. by x (Contains-filter is_object (subject_texts g) x both) (Contains-append_cases (terms_of g).subjects (terms_of g).objects x there);
    subjects_alone = λ x alone other. object_alone x other (Contains-filter (λ y. not (is_object y)) (subject_texts g) x alone).0;
  }
    where
      by : (x : List ℕ) → Contains (subject_texts g) x × (is_object x ≡ true) → Contains (terms_of g).subjects x ⊎ Contains (terms_of g).objects x → ⊥
      by x both (inl alone) = no_text (is_object x) (Contains-filter (λ y. not (is_object y)) (subject_texts g) x alone).1 both.1
      by x both (inr other) = object_alone x other both.0

-- ---- all subjects and all objects

-- a list has what a test keeps of it and what it does not
split_members : (q : List ℕ → Bool) (l : List (List ℕ)) (x : List ℕ) → Contains l x ↔ Contains (filter q l ++ filter (λ y. not (q y)) l) x
split_members q l x = (
  λ there. to (q x) refl there,
  λ there. from (Contains-append_cases (filter q l) (filter (λ y. not (q y)) l) x there),
)
  where
    to : (b : Bool) → q x ≡ b → Contains l x → Contains (filter q l ++ filter (λ y. not (q y)) l) x
    to true e there = Contains-append_left (filter q l) (filter (λ y. not (q y)) l) x (filter-Contains q l x there e)
    to false e there = Contains-append_right (filter q l) (filter (λ y. not (q y)) l) x (filter-Contains (λ y. not (q y)) l x there (ap not e))

    from : Contains (filter q l) x ⊎ Contains (filter (λ y. not (q y)) l) x → Contains l x
    from (inl kept) = (Contains-filter q l x kept).0
    from (inr others) = (Contains-filter (λ y. not (q y)) l x others).0

part_is : (p : Triple → List ℕ) (g : List Triple) (x : List ℕ) → Contains (set_of text_cmp (map p g)) x ↔ Contains (map p g) x
part_is p g x = (set_of-is text_cmp text_cmp-total text_cmp-exact (map p g)).same x

subjects_are : (g : List Triple) (x : List ℕ) → Contains (map (λ (u : Triple). u.subject) g) x ↔ Contains (all_subjects (terms_of g)) x
subjects_are g x =
    let set = part_is (λ (u : Triple). u.subject) g x in
    let split = split_members (λ y. is_among (object_texts g) y) (subject_texts g) x in
    ((λ there. split.0 (set.1 there)), (λ there. set.0 (split.1 there)))

objects_are : (g : List Triple) (x : List ℕ) → Contains (map (λ (u : Triple). u.object) g) x ↔ Contains (all_objects (terms_of g)) x
objects_are g x =
    let set = part_is (λ (u : Triple). u.object) g x in (
      λ there. to (is_subject g x) refl (set.1 there),
      λ there. set.0 (from (Contains-append_cases (terms_of g).shared (terms_of g).objects x there)),
    )
  where
    to : (b : Bool) → is_subject g x ≡ b → Contains (object_texts g) x → Contains (all_objects (terms_of g)) x
    to true e there = Contains-append_left (terms_of g).shared (terms_of g).objects x (filter-Contains (is_object g) (subject_texts g) x (among_from (subject_texts g) x e) (among (object_texts g) x there))
    to false e there = Contains-append_right (terms_of g).shared (terms_of g).objects x (filter-Contains (λ y. not (is_subject g y)) (object_texts g) x there (ap not e))

    from : Contains (terms_of g).shared x ⊎ Contains (terms_of g).objects x → Contains (object_texts g) x
    from (inl both) = among_from (object_texts g) x (Contains-filter (is_object g) (subject_texts g) x both).1
    from (inr other) = (Contains-filter (λ y. not (is_subject g y)) (object_texts g) x other).0

-- ---- the numbered triples use all

triples_are : (g : List Triple) (t : Numbered) → Contains (numbering_of g).triples t ↔ Contains (map (numbers_in (terms_of g)) g) t
triples_are g t = (set_of-is number_cmp number_cmp-total number_cmp-exact (map (numbers_in (terms_of g)) g)).same t

-- one part: its numbers are those of the list, and each text has a triple
module _ (g : List Triple) (l : List (List ℕ)) (f : Numbered → ℕ) (p : Triple → List ℕ) (number_is : (u : Triple) → f (numbers_in (terms_of g) u) ≡ place_of l (p u)) (members : (x : List ℕ) → Contains (map p g) x ↔ Contains l x) (differ : Differ l) where
  part_below : (t : Numbered) → Contains (numbering_of g).triples t → f t < length l
  part_below t there =
      let u = from_map (numbers_in (terms_of g)) g t ((triples_are g t).0 there) in
      let inside = place_below l (p u.0) (among l (p u.0) ((members (p u.0)).0 (Contains-map p g u.0 u.1))) in
      let number : f t ≡ place_of l (p u.0) = sym (ap f u.2) ∙ number_is u.0 in
      omega arith

  part_each : (n : ℕ) → n < length l → (t : Numbered) × Contains (numbering_of g).triples t × (f t ≡ n)
  part_each n low =
      let x = get_or l n [] in
      let u = from_map p g x ((members x).1 (Contains-get_or l n [] low)) in
      let t = numbers_in (terms_of g) u.0 in
      (t, (triples_are g t).1 (Contains-map (numbers_in (terms_of g)) g u.0 u.1), number_is u.0 ∙ ap (place_of l) u.2 ∙ place_of_differ l n x differ low refl)

pub UseAll-numbering_of : (g : List Triple) → UseAll (terms_of g) (numbering_of g).triples
UseAll-numbering_of g =
    let terms = terms_of g in
    let ordered = AreOrdered-terms_of g in
    let subjects = subjects_differ terms ordered in
    let objects = objects_differ terms ordered in
    let predicates = Differ-ascending terms.predicates ordered.predicates in
    let predicates_are : (x : List ℕ) → Contains (map (λ (u : Triple). u.predicate) g) x ↔ Contains terms.predicates x = λ x. let set = part_is (λ (u : Triple). u.predicate) g x in (set.1, set.0) in
    record {
      subject = part_below g (all_subjects terms) (λ (t : Numbered). t.0) (λ (u : Triple). u.subject) (λ u. refl) (subjects_are g) subjects;
      predicate = part_below g terms.predicates (λ (t : Numbered). t.1) (λ (u : Triple). u.predicate) (λ u. refl) predicates_are predicates;
      object = part_below g (all_objects terms) (λ (t : Numbered). t.2) (λ (u : Triple). u.object) (λ u. refl) (objects_are g) objects;
      each_subject = part_each g (all_subjects terms) (λ (t : Numbered). t.0) (λ (u : Triple). u.subject) (λ u. refl) (subjects_are g) subjects;
      each_predicate = part_each g terms.predicates (λ (t : Numbered). t.1) (λ (u : Triple). u.predicate) (λ u. refl) predicates_are predicates;
      each_object = part_each g (all_objects terms) (λ (t : Numbered). t.2) (λ (u : Triple). u.object) (λ u. refl) (objects_are g) objects;
    }

-- ---- and they name the graph

pub graph_named-numbering_of : (g : List Triple) → IsStrictlySortedBy triple_cmp g → graph_named (terms_of g) (numbering_of g).triples ≡ g
graph_named-numbering_of g sorted =
    let terms = terms_of g in
    let ts = (numbering_of g).triples in
    same_members triple_cmp triple_cmp-total triple_cmp-exact (graph_named terms ts) g (set_of-is triple_cmp triple_cmp-total triple_cmp-exact (map (named terms) ts)).ascends sorted (λ u. (
      λ there.
          let t = from_map (named terms) ts u ((graph_is terms ts u).0 there) in
          let v = from_map (numbers_in terms) g t.0 ((triples_are g t.0).0 t.1) in
          let is : v.0 ≡ u = sym (named-numbers g v.0 v.1) ∙ ap (named terms) v.2 ∙ t.2 in
          subst (Contains g) is v.1,
      λ there. (graph_is terms ts u).1 (subst (Contains (map (named terms) ts)) (named-numbers g u there) (Contains-map (named terms) ts (numbers_in terms u) ((triples_are g (numbers_in terms u)).1 (Contains-map (numbers_in terms) g u there)))),
    ))
