-- Laws of the layout: bytes, and what is laid out in them, determine each other.
use Rattle.std.proofs.Common.{◌≡◌, ℕ, zero, suc, ◌+◌, ◌*◌, ◌^◌, ◌<◌, ◌≤◌, List, [], ◌∷◌, ◌++◌, length, take, drop, slice_index, refl, sym, ap, ◌∙◌, subst, arith, length-append}
use Rattle.std.proofs.lemmas.List.{length-take, length-drop, take_at, drop_at, take-append-drop, take-append-le, drop-append-le, nil_from_length}
use Rattle.byte_tables.specs.Numbers.{number_bytes, numbers_in, AllFit32, IsBytes}
use Rattle.byte_tables.specs.Pieces.{joined, ends_from, starts_of, pieces_at, CutWhole}
use Rattle.byte_tables.proofs.NumberLaws.{IsBytes-take, IsBytes-drop, numbers_in-number_bytes, length-number_bytes, ReadWhole, ReadWhole-bytes}
use Rattle.byte_tables.proofs.PieceLaws.{pieces_at-starts_of, CutWhole-starts_of, length-starts_of, IsTable, IsTable-cut}
use Rattle.index_file.specs.Layout.{Layout, name, size_for, file_size, head_numbers, layout_bytes, head_in, field, text_count, slice_count, after_head, text_starts, after_starts, text_part, after_texts, slice_starts, slice_part, layout_in}
use Rattle.term_numbers.specs.Limits.{max_triples}
use Rattle.index_file.specs.Conditions.{LengthsAgree}
use Rattle.index_file.specs.LaidOut.{CanBeLaidOut, IsLaidOut}

-- ---- from a layout to bytes

-- the bytes of a layout are as many as its size says
pub length-layout_bytes : (l : Layout) → length (layout_bytes l) ≡ file_size l
unfolding layout_bytes name
length-layout_bytes l =
    let heads = number_bytes (head_numbers l) in
    let starts = number_bytes (starts_of l.texts) in
    let texts = joined l.texts in
    let places = number_bytes (starts_of l.slices) in
    let slices = joined l.slices in
    omega (arith, length-append heads (starts ++ (texts ++ (places ++ slices))), length-append starts (texts ++ (places ++ slices)), length-append texts (places ++ slices), length-append places slices, length-number_bytes (head_numbers l), length-number_bytes (starts_of l.texts), length-number_bytes (starts_of l.slices), length-starts_of l.texts, length-starts_of l.slices)

head_fits : (l : Layout) → CanBeLaidOut l → AllFit32 (head_numbers l)
head_fits l can =
    let texts = can.texts in
    let few = can.few in
    let short = can.short in
    (can.known, (omega arith, (omega arith, (omega arith, (omega arith, (omega arith, (omega arith, (omega arith, (short, tt)))))))))

ends_fit : (from : ℕ) (ps : List (List ℕ)) → from + length (joined ps) < 2 ^ 32 → AllFit32 (ends_from from ps)
ends_fit from [] short = tt
ends_fit from (p ∷ ps) short =
    let long = length-append p (joined ps) in
    (omega arith, ends_fit (from + length p) ps (omega arith))

starts_fit : (ps : List (List ℕ)) → length (joined ps) < 2 ^ 32 → AllFit32 (starts_of ps)
starts_fit ps short = (omega arith, ends_fit 0 ps (omega arith))

-- the parts of bytes are those of a layout
record IsReadAs (l : Layout) (bytes : List ℕ) : Type 0 where
  head : head_in bytes ≡ head_numbers l
  text_starts_are : text_starts bytes ≡ starts_of l.texts
  texts_are : text_part bytes ≡ joined l.texts
  slice_starts_are : slice_starts bytes ≡ starts_of l.slices
  slices_are : slice_part bytes ≡ joined l.slices

read_back : (l : Layout) → CanBeLaidOut l → IsReadAs l (layout_bytes l)
unfolding layout_bytes name
read_back l can =
    let bytes = layout_bytes l in
    let short = can.short in
    let heads = number_bytes (head_numbers l) in
    let starts = number_bytes (starts_of l.texts) in
    let texts = joined l.texts in
    let places = number_bytes (starts_of l.slices) in
    let slices = joined l.slices in
    let behind = starts ++ (texts ++ (places ++ slices)) in
    let nine = length-number_bytes (head_numbers l) in
    let head : head_in bytes ≡ head_numbers l = ap numbers_in (take_at heads behind 36 nine) ∙ numbers_in-number_bytes (head_numbers l) (head_fits l can) in
    let after : after_head bytes ≡ behind = drop_at heads behind 36 nine in
    let count : text_count bytes ≡ length l.texts = (λ i. slice_index (head i) 1 + slice_index (head i) 2 + slice_index (head i) 3 + slice_index (head i) 4) ∙ sym can.texts in
    let size : length starts ≡ 4 * (length l.texts + 1) = length-number_bytes (starts_of l.texts) ∙ ap (λ n. 4 * n) (length-starts_of l.texts) in
    let text_starts_are : text_starts bytes ≡ starts_of l.texts =
    (λ i. numbers_in (take (4 * (count i + 1)) (after i)))
    ∙ ap numbers_in (take_at starts (texts ++ (places ++ slices)) (4 * (length l.texts + 1)) size)
    ∙ numbers_in-number_bytes (starts_of l.texts) (starts_fit l.texts (omega arith)) in
    let after_those : after_starts bytes ≡ texts ++ (places ++ slices) = (λ i. drop (4 * (count i + 1)) (after i)) ∙ drop_at starts (texts ++ (places ++ slices)) (4 * (length l.texts + 1)) size in
    let long : field bytes 6 ≡ length texts = ap (λ h. slice_index h 6) head in
    let after_them : after_texts bytes ≡ places ++ slices = (λ i. drop (long i) (after_those i)) ∙ drop_at texts (places ++ slices) (length texts) refl in
    let slice_counts : slice_count bytes ≡ length l.slices = (λ i. 2 * slice_index (head i) 4 + (slice_index (head i) 1 + slice_index (head i) 3) + (slice_index (head i) 1 + slice_index (head i) 2)) ∙ sym can.slices in
    let slice_size : length places ≡ 4 * (length l.slices + 1) = length-number_bytes (starts_of l.slices) ∙ ap (λ n. 4 * n) (length-starts_of l.slices) in
    record {
      head = head;
      text_starts_are = text_starts_are;
      texts_are = (λ i. take (long i) (after_those i)) ∙ take_at texts (places ++ slices) (length texts) refl;
      slice_starts_are =
          (λ i. numbers_in (take (4 * (slice_counts i + 1)) (after_them i)))
          ∙ ap numbers_in (take_at places slices (4 * (length l.slices + 1)) slice_size)
          ∙ numbers_in-number_bytes (starts_of l.slices) (starts_fit l.slices (omega arith));
      slices_are = (λ i. drop (4 * (slice_counts i + 1)) (after_them i)) ∙ drop_at places slices (4 * (length l.slices + 1)) slice_size;
    }

-- what was laid out is read again
pub layout_in-layout_bytes : (l : Layout) → CanBeLaidOut l → layout_in (layout_bytes l) ≡ l
unfolding layout_in
layout_in-layout_bytes l can =
    let read = read_back l can in
    let texts : pieces_at (text_starts (layout_bytes l)) (text_part (layout_bytes l)) ≡ l.texts = (λ i. pieces_at (read.text_starts_are i) (read.texts_are i)) ∙ pieces_at-starts_of l.texts in
    let slices : pieces_at (slice_starts (layout_bytes l)) (slice_part (layout_bytes l)) ≡ l.slices = (λ i. pieces_at (read.slice_starts_are i) (read.slices_are i)) ∙ pieces_at-starts_of l.slices in
    λ i. record {
      version = slice_index (read.head i) 0;
      shared = slice_index (read.head i) 1;
      subjects = slice_index (read.head i) 2;
      objects = slice_index (read.head i) 3;
      predicates = slice_index (read.head i) 4;
      triples = slice_index (read.head i) 5;
      texts = texts i;
      slices = slices i;
    }

name_first : (l : Layout) → take 8 (layout_bytes l) ≡ name
unfolding layout_bytes name
name_first l = refl

-- hold of what was laid out
pub IsLaidOut-layout_bytes : (l : Layout) → CanBeLaidOut l → IsLaidOut l.version (layout_bytes l)
IsLaidOut-layout_bytes l can =
    let bytes = layout_bytes l in
    let read = read_back l can in
    let long = length-layout_bytes l in
    let at : (i : ℕ) → field bytes i ≡ slice_index (head_numbers l) i = λ i. ap (λ h. slice_index h i) read.head in
    let counts : text_count bytes ≡ length l.texts = (λ i. at 1 i + at 2 i + at 3 i + at 4 i) ∙ sym can.texts in
    let slice_counts : slice_count bytes ≡ length l.slices = (λ i. 2 * at 4 i + (at 1 i + at 3 i) + (at 1 i + at 2 i)) ∙ sym can.slices in
    record {
      header = record { long = omega arith; named = name_first l; known = at 0 };
      lengths = record {
        whole = at 8 ∙ sym long;
        parts = (λ i. size_for (counts i) (at 6 i) (slice_counts i) (at 7 i)) ∙ sym long;
        few = subst (λ n. n ≤ max_triples) (sym (at 5)) can.few;
      };
      texts = subst (λ n. CutWhole n (text_starts bytes)) (sym (at 6)) (subst (CutWhole (length (joined l.texts))) (sym read.text_starts_are) (CutWhole-starts_of l.texts can.have_texts));
      slices = subst (λ n. CutWhole n (slice_starts bytes)) (sym (at 7)) (subst (CutWhole (length (joined l.slices))) (sym read.slice_starts_are) (CutWhole-starts_of l.slices can.have_slices));
    }

-- ---- from bytes to a layout

nine_numbers : (xs : List ℕ) → length xs ≡ 9 → slice_index xs 0 ∷ slice_index xs 1 ∷ slice_index xs 2 ∷ slice_index xs 3 ∷ slice_index xs 4 ∷ slice_index xs 5 ∷ slice_index xs 6 ∷ slice_index xs 7 ∷ slice_index xs 8 ∷ [] ≡ xs
nine_numbers (a ∷ b ∷ c ∷ d ∷ e ∷ f ∷ g ∷ h ∷ i ∷ []) nine = refl
nine_numbers _ nine = absurd (omega arith)

pub index_fits : (xs : List ℕ) (i : ℕ) → AllFit32 xs → slice_index xs i < 2 ^ 32
index_fits [] i fit = omega arith
index_fits (x ∷ xs) zero fit = fit.0
index_fits (x ∷ xs) (suc i) fit = index_fits xs i fit.1

-- how long the parts are, where they make all
pub record PartLengths (k t d r : ℕ) (bytes : List ℕ) : Type 0 where
  pub head : length (take 36 (drop 8 bytes)) ≡ 4 * 9
  pub starts : length (take (4 * (k + 1)) (drop 36 (drop 8 bytes))) ≡ 4 * (k + 1)
  pub texts : length (take t (drop (4 * (k + 1)) (drop 36 (drop 8 bytes)))) ≡ t
  pub places : length (take (4 * (d + 1)) (drop t (drop (4 * (k + 1)) (drop 36 (drop 8 bytes))))) ≡ 4 * (d + 1)
  pub slices : length (drop (4 * (d + 1)) (drop t (drop (4 * (k + 1)) (drop 36 (drop 8 bytes))))) ≡ r

pub part_lengths : (k t d r : ℕ) (bytes : List ℕ) → size_for k t d r ≡ length bytes → PartLengths k t d r bytes
part_lengths k t d r bytes all =
    let one = drop 8 bytes in
    let two = drop 36 one in
    let three = drop (4 * (k + 1)) two in
    let four = drop t three in
    let l1 = length-drop 8 bytes in
    let l2 = length-drop 36 one in
    let l3 = length-drop (4 * (k + 1)) two in
    let l4 = length-drop t three in
    record {
      head = omega (arith, length-take 36 one);
      starts = omega (arith, length-take (4 * (k + 1)) two);
      texts = omega (arith, length-take t three);
      places = omega (arith, length-take (4 * (d + 1)) four);
      slices = omega (arith, length-drop (4 * (d + 1)) four);
    }

-- the layout that is read, where the conditions hold
pub record IsReadWhole (bytes : List ℕ) : Type 0 where
  pub can : CanBeLaidOut (layout_in bytes)
  pub again : layout_bytes (layout_in bytes) ≡ bytes

pub IsReadWhole-laid_out : (version : ℕ) (bytes : List ℕ) → version < 2 ^ 32 → IsBytes bytes → IsLaidOut version bytes → IsReadWhole bytes
unfolding layout_in layout_bytes
IsReadWhole-laid_out version bytes small fits laid =
    let k = text_count bytes in
    let t = field bytes 6 in
    let d = slice_count bytes in
    let r = field bytes 7 in
    let lengths = part_lengths k t d r bytes laid.lengths.parts in
    let one = IsBytes-drop 8 bytes fits in
    let two = IsBytes-drop 36 (drop 8 bytes) one in
    let three = IsBytes-drop (4 * (k + 1)) (after_head bytes) two in
    let four = IsBytes-drop t (after_starts bytes) three in
    let head : ReadWhole 9 (take 36 (drop 8 bytes)) = ReadWhole-bytes 9 (take 36 (drop 8 bytes)) (IsBytes-take 36 (drop 8 bytes) one) lengths.head in
    let starts : ReadWhole (k + 1) (take (4 * (k + 1)) (after_head bytes)) = ReadWhole-bytes (k + 1) (take (4 * (k + 1)) (after_head bytes)) (IsBytes-take (4 * (k + 1)) (after_head bytes) two) lengths.starts in
    let places : ReadWhole (d + 1) (take (4 * (d + 1)) (after_texts bytes)) = ReadWhole-bytes (d + 1) (take (4 * (d + 1)) (after_texts bytes)) (IsBytes-take (4 * (d + 1)) (after_texts bytes) four) lengths.places in
    let texts : IsTable (text_starts bytes) (text_part bytes) = IsTable-cut (text_starts bytes) (text_part bytes) (subst (λ n. CutWhole n (text_starts bytes)) (sym lengths.texts) laid.texts) in
    let slices : IsTable (slice_starts bytes) (slice_part bytes) = IsTable-cut (slice_starts bytes) (slice_part bytes) (subst (λ n. CutWhole n (slice_starts bytes)) (sym lengths.slices) laid.slices) in
    let ts = pieces_at (text_starts bytes) (text_part bytes) in
    let ss = pieces_at (slice_starts bytes) (slice_part bytes) in
    let text_bytes : length (joined ts) ≡ t = ap length texts.all ∙ lengths.texts in
    let slice_bytes : length (joined ss) ≡ r = ap length slices.all ∙ lengths.slices in
    let text_counts : length ts ≡ k = omega (arith, length-starts_of ts, ap length texts.starts_are, starts.counted) in
    let slice_counts : length ss ≡ d = omega (arith, length-starts_of ss, ap length slices.starts_are, places.counted) in
    let size : size_for (length ts) (length (joined ts)) (length ss) (length (joined ss)) ≡ field bytes 8 =
    (λ i. size_for (text_counts i) (text_bytes i) (slice_counts i) (slice_bytes i)) ∙ laid.lengths.parts ∙ sym laid.lengths.whole in
    let numbers : head_numbers (layout_in bytes) ≡ head_in bytes =
    (λ i. field bytes 0 ∷ field bytes 1 ∷ field bytes 2 ∷ field bytes 3 ∷ field bytes 4 ∷ field bytes 5 ∷ text_bytes i ∷ slice_bytes i ∷ size i ∷ []) ∙ nine_numbers (head_in bytes) head.counted in
    let head_is = ap number_bytes numbers ∙ head.written in
    let starts_are = ap number_bytes texts.starts_are ∙ starts.written in
    let places_are = ap number_bytes slices.starts_are ∙ places.written in
    record {
      can = record {
        texts = text_counts;
        slices = slice_counts;
        have_texts = texts.have;
        have_slices = slices.have;
        known = subst (λ n. n < 2 ^ 32) (sym laid.header.known) small;
        few = laid.lengths.few;
        short = subst (λ n. n < 2 ^ 32) (sym size) (index_fits (head_in bytes) 8 head.fit);
      };
      again =
          (λ i. sym laid.header.named i ++ (head_is i ++ (starts_are i ++ (texts.all i ++ (places_are i ++ slices.all i)))))
          ∙ ap (λ bs. take 8 bytes ++ (take 36 (drop 8 bytes) ++ (take (4 * (k + 1)) (after_head bytes) ++ (text_part bytes ++ bs)))) (take-append-drop (4 * (d + 1)) (after_texts bytes))
          ∙ ap (λ bs. take 8 bytes ++ (take 36 (drop 8 bytes) ++ (take (4 * (k + 1)) (after_head bytes) ++ bs))) (take-append-drop t (after_starts bytes))
          ∙ ap (λ bs. take 8 bytes ++ (take 36 (drop 8 bytes) ++ bs)) (take-append-drop (4 * (k + 1)) (after_head bytes))
          ∙ ap (λ bs. take 8 bytes ++ bs) (take-append-drop 36 (drop 8 bytes))
          ∙ take-append-drop 8 bytes;
    }

-- ---- no front

-- the length is told in the front, so bytes with more behind them are of another length
pub no_front : (bytes more : List ℕ) → 44 ≤ length bytes → LengthsAgree bytes → LengthsAgree (bytes ++ more) → more ≡ []
no_front bytes more long lengths longer =
    let eight : drop 8 (bytes ++ more) ≡ drop 8 bytes ++ more = drop-append-le 8 bytes more (omega arith) in
    let front : take 36 (drop 8 (bytes ++ more)) ≡ take 36 (drop 8 bytes) = ap (take 36) eight ∙ take-append-le 36 (drop 8 bytes) more (omega (arith, length-drop 8 bytes)) in
    let same : field (bytes ++ more) 8 ≡ field bytes 8 = ap (λ f. slice_index (numbers_in f) 8) front in
    let both : length (bytes ++ more) ≡ length bytes = sym longer.whole ∙ same ∙ lengths.whole in
    nil_from_length more (omega (arith, length-append bytes more))
