-- Laws of the image of a numbering: how long it is, and that it is made of its parts.
use Rattle.std.proofs.Common.{◌≡◌, ℕ, ◌+◌, ◌*◌, ◌^◌, ◌<◌, ◌≤◌, List, [], ◌∷◌, ◌++◌, length, take, drop, map, Result, Ok, Err, Some, OnOk, is_ok, cond, refl, sym, ap, ◌∙◌, subst, arith, append_assoc, length-append}
use Rattle.std.proofs.Math.Seq.{drop-append_seam}
use Rattle.byte_tables.proofs.NumberLaws.{length-number_bytes}
use Rattle.std.proofs.lemmas.List.{length-map, map-append, append-nil, take-append-drop}
use Rattle.std.proofs.lemmas.Simd.{map-map}
use Rattle.std.specs.Int.{w32, to_le_bytes}
use Rattle.std.specs.List.{range_with_len, slice_get}
use Rattle.cube_slices.specs.Slices.{slice_bytes}
use Rattle.bm_term.specs.declared.triple.Triple.{Triple}
use Rattle.byte_tables.specs.Numbers.{number_bytes}
use Rattle.byte_tables.specs.Pieces.{joined, starts_of}
use Rattle.run_rows.specs.declared.form.RowForm.{RowForm}
use Rattle.run_rows.specs.declared.form.RowForm.TheVariants.{V1}
use Rattle.term_numbers.specs.Numbering.{Numbering, term_table}
use Rattle.term_numbers.specs.Order.{Numbered}
use Rattle.term_numbers.proofs.NumberLaws.{as_many}
use Rattle.index_image.proofs.CutLaws.{slices_are_short}
use Rattle.index_image.proofs.ItemLaws.{first_items}
use Rattle.index_file.proofs.FamilyLaws.{length-slices_of}
use Rattle.index_file.proofs.LayoutLaws.{length-layout_bytes}
use Rattle.index_image.proofs.PieceWriterLaws.{PutsPieces-then}
use Rattle.index_image.proofs.SpreadLaws.{keys_before-le}
use Rattle.index_file.proofs.WritingLaws.{length-joined, IsIndex-image_of}
use Rattle.term_numbers.specs.Limits.{max_triples}
use Rattle.index_file.specs.Conditions.{IsIndex, IsImageOf}
use Rattle.index_file.specs.Families.{pairs_in, slices_of}
use Rattle.index_file.specs.Image.{slices_for, family_pairs, all_pairs, pair_slice, layout_of, image_of}
use Rattle.index_file.specs.Layout.{Layout, name, head_numbers, file_size, layout_bytes}
use Rattle.index_file.specs.Version.{version_of, numbering_bytes, NumbersGraph}
use Rattle.index_file.specs.declared.family.Family.{Family}
use Rattle.index_file.specs.declared.family.Family.TheVariants.{So, Os, Ps, Po}
use Rattle.index_image.specs.declared.fault.ImageFault.{ImageFault}
use Rattle.index_image.specs.declared.fault.ImageFault.TheVariants.{TooLong, Memory}
use Rattle.index_image.specs.steps.Measuring.{IsEnd, IsMost, IsMeasured, slice_part_of, slices_at, tables_of}
use Rattle.index_image.specs.steps.Spreading.{key_of, keys_of}
use Rattle.index_image.specs.steps.Writing.{Writing, PutsPieces}

-- ---- the slices of a family, one by one

pub family_slices_are : (form : RowForm) (f : Family) (ts : List Numbered) (count : ℕ) → map (λ n. pair_slice form (pairs_in f n ts)) (range_with_len 0 count) ≡ map (pair_slice form) (slices_of f 0 count ts)
family_slices_are form f ts count = sym (map-map (pair_slice form) (λ n. pairs_in f n ts) (range_with_len 0 count))

family_short : (form : RowForm) (f : Family) (ts : List Numbered) (count : ℕ) → length (joined (map (pair_slice form) (slices_of f 0 count ts))) ≤ 4 * count + 16 * length ts
family_short form f ts count =
    omega (
      arith,
      ap (λ (l : List (List ℕ)). length (joined l)) (family_slices_are form f ts count),
      slices_are_short form f ts count,
      keys_before-le (keys_of f ts) count,
      length-map ts (key_of f),
    )

pub length-family : (form : RowForm) (n : Numbering) (f : Family) → length (map (pair_slice form) (family_pairs n f)) ≡ slices_for f n.terms
length-family form n f = length-map (family_pairs n f) (pair_slice form) ∙ length-slices_of f 0 (slices_for f n.terms) n.triples

-- ---- all slices

pub all_slices : (form : RowForm) (n : Numbering) → map (pair_slice form) (all_pairs n)
    ≡ map (pair_slice form) (family_pairs n So) ++ (map (pair_slice form) (family_pairs n Os) ++ (map (pair_slice form) (family_pairs n Ps) ++ map (pair_slice form) (family_pairs n Po)))
all_slices form n =
    let s = pair_slice form in
    map-append s (family_pairs n So) (family_pairs n Os ++ (family_pairs n Ps ++ family_pairs n Po))
    ∙ ap (λ l. map s (family_pairs n So) ++ l) (map-append s (family_pairs n Os) (family_pairs n Ps ++ family_pairs n Po)
    ∙ ap (λ l. map s (family_pairs n Os) ++ l) (map-append s (family_pairs n Ps) (family_pairs n Po)))

-- how long the slices of a family are
abbrev pub family_length : RowForm → Numbering → Family → ℕ
family_length form n f = length (joined (map (pair_slice form) (family_pairs n f)))

pub length-all_slices : (form : RowForm) (n : Numbering) → length (slice_part_of form n) ≡ family_length form n So + family_length form n Os + family_length form n Ps + family_length form n Po
length-all_slices form n =
    let so = map (pair_slice form) (family_pairs n So) in
    let os = map (pair_slice form) (family_pairs n Os) in
    let ps = map (pair_slice form) (family_pairs n Ps) in
    let po = map (pair_slice form) (family_pairs n Po) in
    omega (arith, ap (λ (l : List (List ℕ)). length (joined l)) (all_slices form n), length-joined so (os ++ (ps ++ po)), length-joined os (ps ++ po), length-joined ps po)

pub length-all_pairs : (n : Numbering) → length (all_pairs n) ≡ slices_for So n.terms + slices_for Os n.terms + slices_for Ps n.terms + slices_for Po n.terms
length-all_pairs n =
    let so = family_pairs n So in
    let os = family_pairs n Os in
    let ps = family_pairs n Ps in
    let po = family_pairs n Po in
    omega (
      arith,
      length-append so (os ++ (ps ++ po)),
      length-append os (ps ++ po),
      length-append ps po,
      length-slices_of So 0 (slices_for So n.terms) n.triples,
      length-slices_of Os 0 (slices_for Os n.terms) n.triples,
      length-slices_of Ps 0 (slices_for Ps n.terms) n.triples,
      length-slices_of Po 0 (slices_for Po n.terms) n.triples,
    )

-- four bytes a slice and sixty-four a triple at most
pub slice_part_short : (form : RowForm) (n : Numbering) → length (slice_part_of form n) ≤ 4 * length (all_pairs n) + 64 * length n.triples
slice_part_short form n =
    omega (
      arith,
      length-all_slices form n,
      length-all_pairs n,
      family_short form So n.triples (slices_for So n.terms),
      family_short form Os n.triples (slices_for Os n.terms),
      family_short form Ps n.triples (slices_for Ps n.terms),
      family_short form Po n.triples (slices_for Po n.terms),
    )

-- the families are written one after the other
pub PutsPieces-families : (form : RowForm) (n : Numbering) (a b c d e : Writing) → PutsPieces a b (map (pair_slice form) (family_pairs n So)) → PutsPieces b c (map (pair_slice form) (family_pairs n Os))
    → PutsPieces c d (map (pair_slice form) (family_pairs n Ps)) → PutsPieces d e (map (pair_slice form) (family_pairs n Po)) → PutsPieces a e (map (pair_slice form) (all_pairs n))
PutsPieces-families form n a b c d e so os ps po =
    let s = pair_slice form in
    subst (PutsPieces a e) (sym (all_slices form n))
    (PutsPieces-then a b e (map s (family_pairs n So)) (map s (family_pairs n Os) ++ (map s (family_pairs n Ps) ++ map s (family_pairs n Po))) so
    (PutsPieces-then b c e (map s (family_pairs n Os)) (map s (family_pairs n Ps) ++ map s (family_pairs n Po)) os
    (PutsPieces-then c d e (map s (family_pairs n Ps)) (map s (family_pairs n Po)) ps po)))

-- ---- the length of it all

pub length-numbering_bytes : (form : RowForm) (n : Numbering) → length (numbering_bytes form n) ≡ slices_at n + length (slice_part_of form n)
length-numbering_bytes form n = omega (arith, length-layout_bytes (layout_of (version_of form) form n), length-map (all_pairs n) (pair_slice form))

pub size-numbering : (form : RowForm) (n : Numbering) → file_size (layout_of (version_of form) form n) ≡ length (numbering_bytes form n)
size-numbering form n = sym (length-layout_bytes (layout_of (version_of form) form n))

-- what is too long, is so with more bytes
pub IsEnd-longer : (short long : ℕ) (e : ImageFault) → short ≤ long → IsEnd short (Err e) → IsEnd long (Err e)
IsEnd-longer short long TooLong more end = omega (arith, end)
IsEnd-longer short long Memory more end = tt

pub IsMost-longer : (short long : ℕ) (e : ImageFault) → short ≤ long → IsEnd short (Err e) → IsMost long (Err e)
IsMost-longer short long TooLong more end = omega (arith, end)
IsMost-longer short long Memory more end = tt

-- a length of all is a limit
pub IsMost-end : (end : ℕ) (r : Result ℕ ImageFault) → IsEnd end r → IsMost end r
IsMost-end end (Ok n) is = (omega (arith, is.0), omega (arith, is.0, is.1))
IsMost-end end (Err TooLong) is = is
IsMost-end end (Err Memory) is = tt

pub IsMeasured-end : (form : RowForm) (n : Numbering) (short : ℕ) (e : ImageFault) → short ≤ length (numbering_bytes form n) → IsEnd short (Err e) → IsMeasured form n (Err e)
IsMeasured-end form n short TooLong more end = omega (arith, end)
IsMeasured-end form n short Memory more end = tt

pub IsMeasured-most : (form : RowForm) (n : Numbering) (e : ImageFault) (from : ℕ) → from ≡ slices_at n → IsMost (from + length (slice_part_of form n)) (Err e) → IsMeasured form n (Err e)
IsMeasured-most form n TooLong from from-is most = omega (arith, length-numbering_bytes form n, most)
IsMeasured-most form n Memory from from-is most = tt

-- ---- texts, one by one

pub length_with_text : (ts : List (List ℕ)) (i : ℕ) (t : List ℕ) → slice_get ts i ≡ Some t → length (joined (take (i + 1) ts)) ≡ length (joined (take i ts)) + length t
length_with_text ts i t is =
    ap (λ (l : List (List ℕ)). length (joined l)) (first_items ts i t is) ∙ length-joined (take i ts) (t ∷ [])
    ∙ ap (λ n. length (joined (take i ts)) + n) (ap length (append-nil t))

-- the first texts and the next are no longer than all
pub texts_fit : (ts : List (List ℕ)) (i : ℕ) (t : List ℕ) → slice_get ts i ≡ Some t → length (joined (take i ts)) + length t ≤ length (joined ts)
texts_fit ts i t is =
    let all : length (joined ts) ≡ length (joined (take (i + 1) ts)) + length (joined (drop (i + 1) ts)) =
    ap (λ (l : List (List ℕ)). length (joined l)) (sym (take-append-drop (i + 1) ts)) ∙ length-joined (take (i + 1) ts) (drop (i + 1) ts) in
    omega (arith, length_with_text ts i t is, all)

pub texts_put : (a b c : Writing) (ts : List (List ℕ)) (i : ℕ) (t : List ℕ) → slice_get ts i ≡ Some t → PutsPieces a b (take i ts) → PutsPieces b c (t ∷ []) → PutsPieces a c (take (i + 1) ts)
texts_put a b c ts i t is first then = subst (PutsPieces a c) (sym (first_items ts i t is)) (PutsPieces-then a b c (take i ts) (t ∷ []) first then)

-- ---- a slice of no pair

pub no_pairs : (form : RowForm) (pairs : List (ℕ × ℕ)) → length pairs ≡ 0 → pair_slice form pairs ≡ to_le_bytes w32 0
unfolding slice_bytes
no_pairs form [] none = refl
no_pairs form (p ∷ ps) none = absurd (omega arith)

pub empty_slice : {A B : Type 0} (form : RowForm) (pairs : List (ℕ × ℕ)) (r : Result A B) (old new : List ℕ) → length pairs ≡ 0 → new ≡ cond (is_ok r) (old ++ to_le_bytes w32 0) old → OnOk r (new ≡ old ++ pair_slice form pairs)
empty_slice form pairs (Ok x) old new none is = is ∙ ap (λ l. old ++ l) (sym (no_pairs form pairs none))
empty_slice form pairs (Err e) old new none is = tt

-- what follows from what holds of a success
pub on_ok : {A B P Q : Type 0} (r : Result A B) → (P → Q) → OnOk r P → OnOk r Q
on_ok (Ok x) f p = f p
on_ok (Err e) f p = tt

-- ---- the parts in a row

-- a table that is written whole
pub table_written : (front out : List ℕ) (begun w : Writing) (count : ℕ) (ps : List (List ℕ)) → begun ≡ record { front = front; starts = to_le_bytes w32 0; left = count; pieces = [] }
    → PutsPieces begun w ps → out ≡ w.front ++ (w.starts ++ w.pieces) → out ≡ front ++ (number_bytes (starts_of ps) ++ joined ps)
unfolding number_bytes
table_written front out begun w count ps begun-is puts out-is =
    let all : PutsPieces (record { front = front; starts = to_le_bytes w32 0; left = count; pieces = [] }) w ps = subst (λ (v : Writing). PutsPieces v w ps) begun-is puts in
    out-is ∙ (λ i. all.front i ++ (all.starts i ++ all.pieces i))

pub head_and_tables : (l : Layout) → (name ++ number_bytes (head_numbers l)) ++ tables_of l ≡ layout_bytes l
unfolding layout_bytes
head_and_tables l = append_assoc name (number_bytes (head_numbers l)) (tables_of l)

pub tables-append : (front : List ℕ) (l : Layout) → (front ++ (number_bytes (starts_of l.texts) ++ joined l.texts)) ++ (number_bytes (starts_of l.slices) ++ joined l.slices) ≡ front ++ tables_of l
tables-append front l =
    append_assoc front (number_bytes (starts_of l.texts) ++ joined l.texts) (number_bytes (starts_of l.slices) ++ joined l.slices)
    ∙ ap (λ r. front ++ r) (append_assoc (number_bytes (starts_of l.texts)) (joined l.texts) (number_bytes (starts_of l.slices) ++ joined l.slices))

-- the head is written over its room
pub headed : (l : Layout) (front image head : List ℕ) → length front ≡ 44 → image ≡ front ++ tables_of l → head ≡ name ++ number_bytes (head_numbers l) → length head ≡ 44 → take 0 image ++ (head ++ drop (0 + length head) image) ≡ layout_bytes l
headed l front image head room image-is head-is long =
    let after : drop (0 + length head) image ≡ tables_of l =
    (λ i. drop (let e : 0 + length head ≡ length front = omega arith in e i) (image-is i)) ∙ drop-append_seam front (tables_of l) in
    ap (λ r. head ++ r) after ∙ ap (λ h. h ++ tables_of l) head-is ∙ head_and_tables l

length-head : (l : Layout) → length (name ++ number_bytes (head_numbers l)) ≡ 44
unfolding name
length-head l = omega (arith, length-number_bytes (head_numbers l))

pub length-tables : (form : RowForm) (n : Numbering) (front : List ℕ) → length front ≡ 44 → length (front ++ tables_of (layout_of (version_of form) form n)) ≡ length (numbering_bytes form n)
length-tables form n front room =
    let l = layout_of (version_of form) form n in
    omega (arith, length-append front (tables_of l), ap length (head_and_tables l), length-append (name ++ number_bytes (head_numbers l)) (tables_of l), length-head l)

-- the numbers of the head
pub head_numbers-are : (form : RowForm) (n : Numbering) (version shared subjects objects predicates triples texts slices size : ℕ) → version ≡ version_of form → shared ≡ length n.terms.shared → subjects ≡ length n.terms.subjects
    → objects ≡ length n.terms.objects → predicates ≡ length n.terms.predicates → triples ≡ length n.triples → texts ≡ length (joined (term_table n.terms)) → slices ≡ length (slice_part_of form n)
    → size ≡ file_size (layout_of (version_of form) form n)
    → version ∷ shared ∷ subjects ∷ objects ∷ predicates ∷ triples ∷ texts ∷ slices ∷ size ∷ [] ≡ head_numbers (layout_of (version_of form) form n)
head_numbers-are form n version shared subjects objects predicates triples texts slices size v h a b c t x s z = λ i. v i ∷ h i ∷ a i ∷ b i ∷ c i ∷ t i ∷ x i ∷ s i ∷ z i ∷ []

-- the head, from its name and its numbers
pub head_is : (form : RowForm) (n : Numbering) (begun out numbers : List ℕ) → begun ≡ name → numbers ≡ head_numbers (layout_of (version_of form) form n) → out ≡ begun ++ number_bytes numbers
    → (out ≡ name ++ number_bytes (head_numbers (layout_of (version_of form) form n))) × (length out ≡ 44)
head_is form n begun out numbers begun-is numbers-are out-is =
    let is : out ≡ name ++ number_bytes (head_numbers (layout_of (version_of form) form n)) = out-is ∙ (λ i. begun-is i ++ number_bytes (numbers-are i)) in
    (is, ap length is ∙ length-head (layout_of (version_of form) form n))

-- ---- the image of a graph

known_version : (form : RowForm) → version_of form < 2 ^ 32
known_version V1 = omega arith

pub IsImageOf-numbers : (form : RowForm) (n : Numbering) (bytes : List ℕ) (graph : List Triple) → NumbersGraph graph n → length n.triples ≤ max_triples → bytes ≡ numbering_bytes form n → length bytes < 2 ^ 32
    → IsImageOf (version_of form) form graph bytes
IsImageOf-numbers form n bytes graph numbers few are short =
    let spelled : bytes ≡ image_of (version_of form) form graph = are ∙ ap (numbering_bytes form) numbers.numbered in
    let many : length n.triples ≡ length graph = ap (λ (m : Numbering). length m.triples) numbers.numbered ∙ as_many graph numbers.ascends in
    record {
      storable = record { ascends = numbers.ascends; triples = numbers.triples; few = omega (arith, many, few); short = omega (arith, ap length spelled) };
      spelled = spelled;
    }

pub IsIndex-numbers : (form : RowForm) (graph : List Triple) (bytes : List ℕ) → IsImageOf (version_of form) form graph bytes → IsIndex (version_of form) form bytes
IsIndex-numbers form graph bytes image = subst (IsIndex (version_of form) form) (sym image.spelled) (IsIndex-image_of (version_of form) form graph (known_version form) image.storable)
