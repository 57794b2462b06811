-- Laws of the sections of a file: how many pieces each table has, and the layout that they make.
use Rattle.std.proofs.Common.{◌≡◌, ◌↔◌, ℕ, ◌+◌, ◌*◌, ◌^◌, ◌<◌, List, length, take, drop, All, sym, ap, ◌∙◌, subst, arith}
use Rattle.byte_tables.specs.Numbers.{numbers_in, IsBytes}
use Rattle.byte_tables.specs.Pieces.{pieces_at, CutWhole}
use Rattle.byte_tables.proofs.NumberLaws.{IsBytes-take, IsBytes-drop, ReadWhole, ReadWhole-bytes}
use Rattle.byte_tables.proofs.PieceLaws.{length-starts_of, IsTable, IsTable-cut}
use Rattle.index_file.proofs.LayoutLaws.{IsReadWhole-laid_out, PartLengths, part_lengths, index_fits}
use Rattle.index_file.proofs.ReadingLaws.{slices_are_bytes}
use Rattle.index_file.specs.Conditions.{LengthsAgree}
use Rattle.index_file.specs.LaidOut.{CanBeLaidOut, IsLaidOut}
use Rattle.index_file.specs.Layout.{Layout, head_in, field, text_count, slice_count, after_head, text_starts, text_part, slice_starts, slice_part, layout_in}
use Rattle.index_file.specs.Image.{terms_in}
use Rattle.index_file.specs.declared.counts.IndexCounts.{IndexCounts}
use Rattle.index_file.specs.declared.sections.Sections.{Sections}
use Rattle.index_file.specs.steps.Groups.{terms_at}
use Rattle.index_file.specs.steps.Sections.{AreSectionsOf, HasCounts, layout_with}

lengths_of : (bytes : List ℕ) → LengthsAgree bytes → PartLengths (text_count bytes) (field bytes 6) (slice_count bytes) (field bytes 7) bytes
lengths_of bytes lengths = part_lengths (text_count bytes) (field bytes 6) (slice_count bytes) (field bytes 7) bytes lengths.parts

-- the bytes of the texts and of the slices are as many as are written
pub length-text_part : (bytes : List ℕ) → LengthsAgree bytes → length (text_part bytes) ≡ field bytes 6
length-text_part bytes lengths = (lengths_of bytes lengths).texts

pub length-slice_part : (bytes : List ℕ) → LengthsAgree bytes → length (slice_part bytes) ≡ field bytes 7
length-slice_part bytes lengths = (lengths_of bytes lengths).slices

-- a table that is cut whole has as many texts as are written
pub text_table_count : (bytes : List ℕ) → IsBytes bytes → LengthsAgree bytes → CutWhole (field bytes 6) (text_starts bytes) → length (pieces_at (text_starts bytes) (text_part bytes)) ≡ text_count bytes
text_table_count bytes fits lengths cut =
    let k = text_count bytes in
    let one = IsBytes-drop 36 (drop 8 bytes) (IsBytes-drop 8 bytes fits) in
    let starts : ReadWhole (k + 1) (take (4 * (k + 1)) (after_head bytes)) = ReadWhole-bytes (k + 1) (take (4 * (k + 1)) (after_head bytes)) (IsBytes-take (4 * (k + 1)) (after_head bytes) one) (lengths_of bytes lengths).starts in
    let texts : IsTable (text_starts bytes) (text_part bytes) = IsTable-cut (text_starts bytes) (text_part bytes) (subst (λ n. CutWhole n (text_starts bytes)) (sym (length-text_part bytes lengths)) cut) in
    omega (arith, length-starts_of (pieces_at (text_starts bytes) (text_part bytes)), ap length texts.starts_are, starts.counted)

-- the length fits in four bytes
length_fits : (bytes : List ℕ) → IsBytes bytes → LengthsAgree bytes → length bytes < 2 ^ 32
length_fits bytes fits lengths =
    let head : ReadWhole 9 (take 36 (drop 8 bytes)) = ReadWhole-bytes 9 (take 36 (drop 8 bytes)) (IsBytes-take 36 (drop 8 bytes) (IsBytes-drop 8 bytes fits)) (lengths_of bytes lengths).head in
    subst (λ n. n < 2 ^ 32) lengths.whole (index_fits (head_in bytes) 8 head.fit)

-- and so does the number of texts
pub text_count_fits : (bytes : List ℕ) → IsBytes bytes → LengthsAgree bytes → text_count bytes < 2 ^ 32
text_count_fits bytes fits lengths = omega (arith, length_fits bytes fits lengths, lengths.parts)

-- a layout that can be laid out has its counts, and they fit
pub HasCounts-laid_out : (l : Layout) → CanBeLaidOut l → All IsBytes l.slices → HasCounts l
HasCounts-laid_out l can bytes =
    let short = can.short in
    let few = can.few in
    record {
      texts = can.texts;
      slices = can.slices;
      few_texts = omega arith;
      few_slices = omega arith;
      version_fits = can.known;
      triples_fit = omega arith;
      bytes = bytes;
    }

pub HasCounts-read : (version : ℕ) (bytes : List ℕ) → version < 2 ^ 32 → IsBytes bytes → IsLaidOut version bytes → HasCounts (layout_in bytes)
HasCounts-read version bytes small fits laid =
    HasCounts-laid_out (layout_in bytes) (IsReadWhole-laid_out version bytes small fits laid).can (slices_are_bytes bytes fits)

-- the layout of the sections is that of the bytes
pub layout_of_sections : (bytes : List ℕ) (s : Sections) → AreSectionsOf bytes s
    → layout_with s.counts (pieces_at (numbers_in s.text_starts.now) s.texts.now) (pieces_at (numbers_in s.slice_starts.now) s.slices.now) ≡ layout_in bytes
unfolding layout_in
layout_of_sections bytes s are =
    λ i. layout_with (are.counts i) (pieces_at (are.text_starts_are i) (are.texts_are i)) (pieces_at (are.slice_starts_are i) (are.slices_are i))

-- ---- the tables of the sections

-- a table of the sections is cut whole where that of the bytes is
pub texts_cut : (bytes : List ℕ) (s : Sections) → AreSectionsOf bytes s → LengthsAgree bytes → CutWhole (length s.texts.now) (numbers_in s.text_starts.now) ↔ CutWhole (field bytes 6) (text_starts bytes)
texts_cut bytes s are lengths =
    let size = ap length are.texts_are ∙ length-text_part bytes lengths in (
      λ cut. subst (λ n. CutWhole n (text_starts bytes)) size (subst (CutWhole (length s.texts.now)) are.text_starts_are cut),
      λ cut. subst (CutWhole (length s.texts.now)) (sym are.text_starts_are) (subst (λ n. CutWhole n (text_starts bytes)) (sym size) cut),
    )

pub slices_cut : (bytes : List ℕ) (s : Sections) → AreSectionsOf bytes s → LengthsAgree bytes → CutWhole (length s.slices.now) (numbers_in s.slice_starts.now) ↔ CutWhole (field bytes 7) (slice_starts bytes)
slices_cut bytes s are lengths =
    let size = ap length are.slices_are ∙ length-slice_part bytes lengths in (
      λ cut. subst (λ n. CutWhole n (slice_starts bytes)) size (subst (CutWhole (length s.slices.now)) are.slice_starts_are cut),
      λ cut. subst (CutWhole (length s.slices.now)) (sym are.slice_starts_are) (subst (λ n. CutWhole n (slice_starts bytes)) (sym size) cut),
    )

-- the texts of the sections are as many as their counts say
pub texts_counted : (bytes : List ℕ) (s : Sections) → AreSectionsOf bytes s → IsBytes bytes → LengthsAgree bytes → CutWhole (length s.texts.now) (numbers_in s.text_starts.now)
    → length (pieces_at (numbers_in s.text_starts.now) s.texts.now) ≡ s.counts.shared + s.counts.subjects + s.counts.objects + s.counts.predicates
texts_counted bytes s are fits lengths cut =
    (λ i. length (pieces_at (are.text_starts_are i) (are.texts_are i)))
    ∙ text_table_count bytes fits lengths ((texts_cut bytes s are lengths).0 cut)
    ∙ sym (ap (λ (n : IndexCounts). n.shared + n.subjects + n.objects + n.predicates) are.counts)

pub texts_few : (bytes : List ℕ) (s : Sections) → AreSectionsOf bytes s → IsBytes bytes → LengthsAgree bytes → CutWhole (length s.texts.now) (numbers_in s.text_starts.now)
    → length (pieces_at (numbers_in s.text_starts.now) s.texts.now) < 2 ^ 32
texts_few bytes s are fits lengths cut =
    subst (λ n. n < 2 ^ 32) (sym ((λ i. length (pieces_at (are.text_starts_are i) (are.texts_are i))) ∙ text_table_count bytes fits lengths ((texts_cut bytes s are lengths).0 cut))) (text_count_fits bytes fits lengths)

-- and their groups are the terms of the layout
pub terms_of_sections : (bytes : List ℕ) (s : Sections) → AreSectionsOf bytes s → terms_at s.counts (pieces_at (numbers_in s.text_starts.now) s.texts.now) ≡ terms_in (layout_in bytes)
unfolding layout_in
terms_of_sections bytes s are = λ i. terms_at (are.counts i) (pieces_at (are.text_starts_are i) (are.texts_are i))
