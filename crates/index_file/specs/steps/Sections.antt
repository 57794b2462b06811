-- Carries proofs only: the sections of a file, and its parts once both tables are cut.
use Rattle.std.specs.Prelude.{◌≡◌, ℕ, ◌+◌, ◌*◌, ◌^◌, ◌<◌, List, length, All}
use Rattle.byte_tables.specs.Numbers.{numbers_in, IsBytes}
use Rattle.index_file.specs.Layout.{Layout, field, text_starts, text_part, slice_starts, slice_part}
use Rattle.index_file.specs.declared.counts.IndexCounts.{IndexCounts}
use Rattle.index_file.specs.declared.sections.Sections.{Sections}

-- the six numbers that tell what the file has
abbrev pub counts_at : List ℕ → IndexCounts
counts_at bytes = record {
  version = field bytes 0;
  shared = field bytes 1;
  subjects = field bytes 2;
  objects = field bytes 3;
  predicates = field bytes 4;
  triples = field bytes 5;
}

-- the numbers, the starts and the bytes of both tables
pub record AreSectionsOf (bytes : List ℕ) (s : Sections) : Type 0 where
  pub counts : s.counts ≡ counts_at bytes
  pub text_starts_are : numbers_in s.text_starts.now ≡ text_starts bytes
  pub texts_are : s.texts.now ≡ text_part bytes
  pub slice_starts_are : numbers_in s.slice_starts.now ≡ slice_starts bytes
  pub slices_are : s.slices.now ≡ slice_part bytes

-- the layout of these counts and pieces
abbrev pub layout_with : IndexCounts → List (List ℕ) → List (List ℕ) → Layout
layout_with c texts slices = record {
  version = c.version;
  shared = c.shared;
  subjects = c.subjects;
  objects = c.objects;
  predicates = c.predicates;
  triples = c.triples;
  texts = texts;
  slices = slices;
}

-- the counts of a layout
abbrev pub counts_in : Layout → IndexCounts
counts_in l = record {
  version = l.version;
  shared = l.shared;
  subjects = l.subjects;
  objects = l.objects;
  predicates = l.predicates;
  triples = l.triples;
}

-- there are as many texts and slices as the counts say, the numbers fit, and the slices are bytes
pub record HasCounts (l : Layout) : Type 0 where
  pub texts : length l.texts ≡ l.shared + l.subjects + l.objects + l.predicates
  pub slices : length l.slices ≡ 2 * l.predicates + (l.shared + l.objects) + (l.shared + l.subjects)
  pub few_texts : length l.texts < 2 ^ 32
  pub few_slices : length l.slices < 2 ^ 32
  pub version_fits : l.version < 2 ^ 32
  pub triples_fit : l.triples < 2 ^ 32
  pub bytes : All IsBytes l.slices
