-- The numbering of a graph: four ascending lists of terms, and the triples by the places of their terms in these lists.
-- It is this project's own.
use Rattle.std.specs.Prelude.{ℕ, Bool, not, bytes_eq, List, [], ◌++◌, map, filter, slice_index_or}
use Rattle.std.specs.List.{list_any, position_or_len}
use Rattle.bm_term.specs.declared.triple.Triple.{Triple}
use Rattle.bm_term.specs.SetOf.{set_of}
use Rattle.term_numbers.specs.Order.{text_cmp, Numbered, number_cmp}

-- terms by their texts: those that are subject and object, subjects alone, objects alone, and predicates
pub record Terms : Type 0 where
  pub shared : List (List ℕ)
  pub subjects : List (List ℕ)
  pub objects : List (List ℕ)
  pub predicates : List (List ℕ)

-- the subjects, the predicates and the objects of some triples, each ascending
abbrev pub subject_texts : List Triple → List (List ℕ)
subject_texts triples = set_of text_cmp (map (λ t. t.subject) triples)

abbrev pub predicate_texts : List Triple → List (List ℕ)
predicate_texts triples = set_of text_cmp (map (λ t. t.predicate) triples)

abbrev pub object_texts : List Triple → List (List ℕ)
object_texts triples = set_of text_cmp (map (λ t. t.object) triples)

-- whether a text is among some texts
abbrev pub is_among : List (List ℕ) → List ℕ → Bool
is_among texts x = list_any (bytes_eq x) texts

-- the terms of a graph
abbrev pub terms_of : List Triple → Terms
terms_of graph = record {
  shared = filter (λ x. is_among (object_texts graph) x) (subject_texts graph);
  subjects = filter (λ x. not (is_among (object_texts graph) x)) (subject_texts graph);
  objects = filter (λ x. not (is_among (subject_texts graph) x)) (object_texts graph);
  predicates = predicate_texts graph;
}

-- All subjects, and all objects: the terms that are both come first, so they have one number in both lists.
abbrev pub all_subjects : Terms → List (List ℕ)
all_subjects terms = terms.shared ++ terms.subjects

abbrev pub all_objects : Terms → List (List ℕ)
all_objects terms = terms.shared ++ terms.objects

-- the four lists in a row
abbrev pub term_table : Terms → List (List ℕ)
term_table terms = terms.shared ++ (terms.subjects ++ (terms.objects ++ terms.predicates))

-- the place of a text in a list, from 0
abbrev pub place_of : List (List ℕ) → List ℕ → ℕ
place_of texts x = position_or_len (bytes_eq x) texts

-- the numbers of a triple
abbrev pub numbers_in : Terms → Triple → Numbered
numbers_in terms t =
    (place_of (all_subjects terms) t.subject, place_of terms.predicates t.predicate, place_of (all_objects terms) t.object)

-- and the triple that has some numbers
abbrev pub named : Terms → Numbered → Triple
named terms n = record {
  subject = slice_index_or (all_subjects terms) n.0 [];
  predicate = slice_index_or terms.predicates n.1 [];
  object = slice_index_or (all_objects terms) n.2 [];
}

-- terms, and triples by their numbers
pub record Numbering : Type 0 where
  pub terms : Terms
  pub triples : List Numbered

-- the numbering of a graph: its terms, and its triples by their numbers, ascending
abbrev pub numbering_of : List Triple → Numbering
numbering_of graph = record {
  terms = terms_of graph;
  triples = set_of number_cmp (map (numbers_in (terms_of graph)) graph);
}
