-- The conditions under which bytes are an image, each named by the part of the file that it is on.
use Rattle.std.specs.Prelude.{◌≡◌, ℕ, ◌+◌, ◌^◌, ◌<◌, ◌≤◌, List, [], ◌∷◌, ◌++◌, length, take, All, Contains}
use Rattle.std.specs.List.Sorted.{IsStrictlySortedBy}
use Rattle.bm_term.specs.Canonical.{IsCanonical, IsTextOf}
use Rattle.bm_term.specs.Graph.{triple_cmp}
use Rattle.bm_term.specs.Triple.{IsNode, IsRdfTriple}
use Rattle.bm_term.specs.declared.term_parts.TermKind.TheVariants.{Iri}
use Rattle.bm_term.specs.declared.triple.Triple.{Triple}
use Rattle.byte_tables.specs.Pieces.{CutWhole}
use Rattle.cube_slices.specs.Slices.{IsSlice}
use Rattle.run_rows.specs.declared.form.RowForm.{RowForm}
use Rattle.term_numbers.specs.Limits.{max_triples}
use Rattle.term_numbers.specs.Numbering.{Terms}
use Rattle.term_numbers.specs.Order.{text_cmp, Numbered}
use Rattle.index_file.specs.Image.{terms_in, group_in, triples_in, image_of}
use Rattle.index_file.specs.Layout.{Layout, name, size_for, field, text_count, slice_count, text_starts, slice_starts, layout_in}
use Rattle.index_file.specs.declared.family.Family.{Family}
use Rattle.index_file.specs.declared.family.Family.TheVariants.{So, Os, Ps, Po}

-- the bytes begin with the name and a known version, and have room for the numbers
pub record HeaderIsKnown (version : ℕ) (bytes : List ℕ) : Type 0 where
  pub long : 44 ≤ length bytes
  pub named : take 8 bytes ≡ name
  pub known : field bytes 0 ≡ version

-- the length is the one written, and that of the parts that are written; there are not too many triples
pub record LengthsAgree (bytes : List ℕ) : Type 0 where
  pub whole : field bytes 8 ≡ length bytes
  pub parts : size_for (text_count bytes) (field bytes 6) (slice_count bytes) (field bytes 7) ≡ length bytes
  pub few : field bytes 5 ≤ max_triples

-- each term has its kind of text
pub record AreCanonical (terms : Terms) : Type 0 where
  pub shared : All IsNode terms.shared
  pub subjects : All IsNode terms.subjects
  pub objects : All IsCanonical terms.objects
  pub predicates : All (IsTextOf Iri) terms.predicates

-- each group ascends, and no text stands in two of the first three
pub record AreOrdered (terms : Terms) : Type 0 where
  pub shared : IsStrictlySortedBy text_cmp terms.shared
  pub subjects : IsStrictlySortedBy text_cmp terms.subjects
  pub objects : IsStrictlySortedBy text_cmp terms.objects
  pub predicates : IsStrictlySortedBy text_cmp terms.predicates
  pub shared_alone : (x : List ℕ) → Contains terms.shared x → Contains (terms.subjects ++ terms.objects) x → ⊥
  pub subjects_alone : (x : List ℕ) → Contains terms.subjects x → Contains terms.objects x → ⊥

-- the texts are cut whole, have their kinds and are in order
pub record TermsAreOrdered (bytes : List ℕ) : Type 0 where
  pub cut : CutWhole (field bytes 6) (text_starts bytes)
  pub canonical : AreCanonical (terms_in (layout_in bytes))
  pub ordered : AreOrdered (terms_in (layout_in bytes))

-- the slices are cut whole
abbrev pub DirectoryIsOrdered : List ℕ → Type 0
DirectoryIsOrdered bytes = CutWhole (field bytes 7) (slice_starts bytes)

-- how many rows and columns the slices of a family have
abbrev pub rows_for : Layout → Family → ℕ
rows_for l So = l.shared + l.subjects
rows_for l Os = l.shared + l.objects
rows_for l Ps = l.predicates
rows_for l Po = l.predicates

abbrev pub columns_for : Layout → Family → ℕ
columns_for l So = l.shared + l.objects
columns_for l Os = l.shared + l.subjects
columns_for l Ps = l.shared + l.subjects
columns_for l Po = l.shared + l.objects

-- each is a slice with so many rows and columns
abbrev pub AreSlices : RowForm → ℕ → ℕ → List (List ℕ) → Type 0
AreSlices form rows columns [] = Unit {0}
AreSlices form rows columns (s ∷ ss) = IsSlice form rows columns s × AreSlices form rows columns ss

-- the slices of each family are slices
abbrev pub RowsAreEncodings : RowForm → Layout → Type 0
RowsAreEncodings form l = (f : Family) → AreSlices form (rows_for l f) (columns_for l f) (group_in l f)

-- each family has as many triples as are written
abbrev pub CountsAgree : RowForm → Layout → Type 0
CountsAgree form l = (f : Family) → length (triples_in form l f) ≡ l.triples

-- each triple of the first family stands in the others
abbrev pub FamiliesAgree : RowForm → Layout → Type 0
FamiliesAgree form l = (f : Family) (t : Numbered) → Contains (triples_in form l So) t → Contains (triples_in form l f) t

-- all seven
pub record IsIndex (version : ℕ) (form : RowForm) (bytes : List ℕ) : Type 0 where
  pub header : HeaderIsKnown version bytes
  pub lengths : LengthsAgree bytes
  pub terms : TermsAreOrdered bytes
  pub directory : DirectoryIsOrdered bytes
  pub rows : RowsAreEncodings form (layout_in bytes)
  pub counts : CountsAgree form (layout_in bytes)
  pub agreement : FamiliesAgree form (layout_in bytes)

-- A graph within the limits: its triples ascend and are triples of RDF, they are not too many, and the image has a length that
-- four bytes can tell.
pub record IsStorable (version : ℕ) (form : RowForm) (graph : List Triple) : Type 0 where
  pub ascends : IsStrictlySortedBy triple_cmp graph
  pub triples : All IsRdfTriple graph
  pub few : length graph ≤ max_triples
  pub short : length (image_of version form graph) < 2 ^ 32

-- the bytes are the image of a graph within the limits
pub record IsImageOf (version : ℕ) (form : RowForm) (graph : List Triple) (bytes : List ℕ) : Type 0 where
  pub storable : IsStorable version form graph
  pub spelled : bytes ≡ image_of version form graph
