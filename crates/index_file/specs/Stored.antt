-- An index, as one that reads it sees it.
use Rattle.std.specs.Prelude.{ℕ, List, length}
use Rattle.bm_term.specs.declared.triple.Triple.{Triple}
use Rattle.term_numbers.specs.Numbering.{Numbering, numbering_of}
use Rattle.index_file.specs.declared.counts.IndexCounts.{IndexCounts}

-- its version, and the numbering of its graph
pub record Stored : Type 0 where
  pub version : ℕ
  pub numbering : Numbering

-- the index of a graph
abbrev pub stored_of : ℕ → List Triple → Stored
stored_of version graph = record { version = version; numbering = numbering_of graph }

-- how many of each it has
abbrev pub counts_of : Stored → IndexCounts
counts_of s = record {
  version = s.version;
  shared = length s.numbering.terms.shared;
  subjects = length s.numbering.terms.subjects;
  objects = length s.numbering.terms.objects;
  predicates = length s.numbering.terms.predicates;
  triples = length s.numbering.triples;
}
