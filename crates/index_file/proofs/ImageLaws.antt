-- The laws of images: the conditions hold of images alone, an image is of one graph, and no front of one is another.
use Rattle.std.proofs.Common.{◌≡◌, ◌↔◌, ℕ, ◌^◌, ◌<◌, List, [], ◌++◌, length, map, Contains, sym, ap, ◌∙◌, subst, arith}
use Rattle.std.proofs.lemmas.List.{length-map}
use Rattle.bm_term.specs.Graph.{triple_cmp}
use Rattle.bm_term.specs.declared.triple.Triple.{Triple}
use Rattle.bm_term.proofs.TripleOrder.{triple_cmp-total, triple_cmp-exact}
use Rattle.byte_tables.specs.Numbers.{IsBytes}
use Rattle.run_rows.specs.declared.form.RowForm.{RowForm}
use Rattle.term_numbers.specs.Order.{Numbered}
use Rattle.term_numbers.specs.Numbering.{named}
use Rattle.term_numbers.proofs.Ascending.{set_of-is, length-set_of}
use Rattle.index_file.proofs.FamilyLaws.{pair_of_triple, from_slices_of, to_slices_of, length-slices_of}
use Rattle.index_file.proofs.LayoutLaws.{length-layout_bytes, IsReadWhole-laid_out, no_front}
use Rattle.index_file.proofs.ReadingLaws.{IsRead-index, laid_out, all_used, image_of-graph_in, slice_there}
use Rattle.index_file.proofs.StoredLaws.{All-rdf}
use Rattle.index_file.proofs.WritingLaws.{IsIndex-image_of, graph_in-image_of}
use Rattle.index_file.specs.Conditions.{IsIndex, IsStorable, IsImageOf}
use Rattle.index_file.specs.Families.{slice_number, pair_of, slices_of, triples_from}
use Rattle.index_file.specs.Image.{terms_in, triples_in, graph_in}
use Rattle.index_file.specs.Layout.{file_size, layout_in}
use Rattle.index_file.specs.declared.family.Family.{Family}
use Rattle.index_file.specs.declared.family.Family.TheVariants.{So}

-- the graph of bytes of which the conditions hold is within the limits
pub IsStorable-graph_in : (version : ℕ) (form : RowForm) (bytes : List ℕ) → version < 2 ^ 32 → IsBytes bytes → IsIndex version form bytes → IsStorable version form (graph_in form bytes)
IsStorable-graph_in version form bytes small fits index =
    let l = layout_in bytes in
    let terms = terms_in l in
    let ts = triples_in form l So in
    let read = IsRead-index version form bytes small fits index in
    let whole = IsReadWhole-laid_out version bytes small fits (laid_out version form bytes index) in
    let few = read.can.few in
    let long : length bytes ≡ file_size l = sym (ap length whole.again) ∙ length-layout_bytes l in
    let same = image_of-graph_in version form bytes small fits index in
    record {
      ascends = (set_of-is triple_cmp triple_cmp-total triple_cmp-exact (map (named terms) ts)).ascends;
      triples = All-rdf terms ts index.terms.canonical (all_used form l read);
      few = omega (arith, length-set_of triple_cmp (map (named terms) ts), length-map ts (named terms), index.counts So);
      short = subst (λ n. n < 2 ^ 32) (sym (ap length same ∙ long)) read.can.short;
    }

-- the conditions hold of an image
index_from_image : (version : ℕ) (form : RowForm) (graph : List Triple) (bytes : List ℕ) → version < 2 ^ 32 → IsImageOf version form graph bytes → IsIndex version form bytes
index_from_image version form graph bytes small image = subst (IsIndex version form) (sym image.spelled) (IsIndex-image_of version form graph small image.storable)

-- and of nothing else
pub index_exactly : (version : ℕ) (form : RowForm) (bytes : List ℕ) → version < 2 ^ 32 → IsBytes bytes → IsIndex version form bytes ↔ ((graph : List Triple) × IsImageOf version form graph bytes)
index_exactly version form bytes small fits = (
  λ index. (graph_in form bytes, record { storable = IsStorable-graph_in version form bytes small fits index; spelled = sym (image_of-graph_in version form bytes small fits index) }),
  λ image. index_from_image version form image.0 bytes small image.1,
)

-- the bytes of an image stand for its graph
pub image_stands_for : (version : ℕ) (form : RowForm) (graph : List Triple) (bytes : List ℕ) → version < 2 ^ 32 → IsImageOf version form graph bytes → graph_in form bytes ≡ graph
image_stands_for version form graph bytes small image = ap (graph_in form) image.spelled ∙ graph_in-image_of version form graph small image.storable

-- so they are the image of no other
pub image_of_one : (version : ℕ) (form : RowForm) (graph other : List Triple) (bytes : List ℕ) → version < 2 ^ 32 → IsImageOf version form graph bytes → IsImageOf version form other bytes → graph ≡ other
image_of_one version form graph other bytes small image second = sym (image_stands_for version form graph bytes small image) ∙ image_stands_for version form other bytes small second

-- a front of an image that is an image is all of it
pub image_has_no_front : (version of : ℕ) (form within : RowForm) (graph other : List Triple) (bytes more : List ℕ) → version < 2 ^ 32 → of < 2 ^ 32 → IsImageOf version form graph bytes → IsImageOf of within other (bytes ++ more) → more ≡ []
image_has_no_front version of form within graph other bytes more small few image longer =
    let front = index_from_image version form graph bytes small image in
    let whole = index_from_image of within other (bytes ++ more) few longer in
    no_front bytes more front.header.long front.lengths whole.lengths

-- the slices of a family have just the triples whose slice there is
pub family_has : (f : Family) (count : ℕ) (ts : List Numbered) (t : Numbered) → Contains (triples_from f 0 (slices_of f 0 count ts)) t ↔ (Contains ts t × (slice_number f t < count))
family_has f count ts t = (
  λ there.
      let found = pair_of_triple f 0 (slices_of f 0 count ts) t there in
      let inside = slice_there (slices_of f 0 count ts) found.0 (pair_of f t) found.2 in
      (from_slices_of f 0 count ts t there, omega (arith, found.1, length-slices_of f 0 count ts)),
  λ both. to_slices_of f 0 count ts t both.0 (omega arith) (omega (arith, both.1)),
)
