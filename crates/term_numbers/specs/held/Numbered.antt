-- Carries proofs only: the numbers of the texts of groups.
use Rattle.std.specs.Prelude.{◌≡◌, ℕ, List, All, length, map}
use Rattle.bm_term.specs.Graph.{graph_of}
use Rattle.bm_term.specs.declared.triple.Triple.{Triple}
use Rattle.term_numbers.specs.Numbering.{Numbering, numbering_of}
use Rattle.term_numbers.specs.held.Seen.{IsSeenWhole}
use Rattle.bm_term.specs.SetOf.{set_of}
use Rattle.term_numbers.specs.Order.{Numbered, number_cmp}
use Rattle.term_numbers.specs.declared.entry.Entry.{Entry}
use Rattle.term_numbers.specs.held.Entries.{AreNumbered, PlacesDiffer, PlaceIsBelow}
use Rattle.term_numbers.specs.held.Renumbered.{renumbered}

-- the numbers by place: nodes that are shared, subjects alone and objects alone, these two from the same number on
pub record NodesHave (shared subjects objects : List Entry) (numbers : List ℕ) : Type 0 where
  pub before : List ℕ
  pub after_shared : List ℕ
  pub after_subjects : List ℕ
  pub shared_have : AreNumbered shared (length shared) 0 before after_shared
  pub subjects_have : AreNumbered subjects (length subjects) (length shared) after_shared after_subjects
  pub objects_have : AreNumbered objects (length objects) (length shared) after_subjects numbers

-- the triples by numbers, ascending
pub record AreByNumber (shared subjects objects predicates : List Entry) (places triples : List Numbered) : Type 0 where
  pub node_numbers : List ℕ
  pub nodes_have : NodesHave shared subjects objects node_numbers
  pub predicates_before : List ℕ
  pub predicate_numbers : List ℕ
  pub predicates_have : AreNumbered predicates (length predicates) 0 predicates_before predicate_numbers
  pub triples_are : triples ≡ set_of number_cmp (map (renumbered node_numbers predicate_numbers) places)

-- entries whose places differ and are below a number
pub record MayBeNumbered (n : ℕ) (entries : List Entry) : Type 0 where
  pub differ : PlacesDiffer entries
  pub below : All (PlaceIsBelow n) entries

-- the numbering of the graph of any triples that were seen so
abbrev pub AreNumbersFor : List (List ℕ) → List (List ℕ) → List Numbered → Numbering → Type 0
AreNumbersFor nodes predicates places numbers = (triples : List Triple) → IsSeenWhole nodes predicates places triples → numbers ≡ numbering_of (graph_of triples)
