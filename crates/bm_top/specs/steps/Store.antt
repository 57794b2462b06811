-- Carries proofs only: the index of some data, or why there is none.
use Rattle.std.specs.Prelude.{◌≡◌, ℕ, List, length, Result, Ok, Err}
use Rattle.bm_term.specs.declared.triple.Triple.{Triple}
use Rattle.bm_top.specs.declared.undecided.Undecided.{Undecided}
use Rattle.bm_top.specs.declared.undecided.Undecided.TheVariants as undecided
use Rattle.bm_top.specs.declared.store.DataIndex.{DataIndex}
use Rattle.bm_top.specs.Lines.{bad_line_line}
use Rattle.bm_top.specs.Standard.{HasTooLongImage, HasTooManyTriples, IsBadData, IsGraphOf, IsIndexOf}

-- it is the index of the graph of the data, with the number of its triples
pub record IsIndexFor (bytes : List ℕ) (made : DataIndex) : Type 0 where
  pub graph : List Triple
  pub is_graph : IsGraphOf bytes graph
  pub is_index : IsIndexOf graph made.bytes.items
  pub count : made.triples ≡ length graph

-- why data has no index
abbrev pub HasNoIndex : List ℕ → Undecided → Type 0
HasNoIndex bytes (undecided.BadLine line) = IsBadData bytes (bad_line_line line)
HasNoIndex bytes undecided.TooManyTriples = HasTooManyTriples bytes
HasNoIndex bytes undecided.ImageTooLong = HasTooLongImage bytes
HasNoIndex bytes (undecided.Query refusal) = ⊥
HasNoIndex bytes undecided.Memory = Unit {0}

abbrev pub IsDataIndex : List ℕ → Result DataIndex Undecided → Type 0
IsDataIndex bytes (Ok made) = IsIndexFor bytes made
IsDataIndex bytes (Err why) = HasNoIndex bytes why
