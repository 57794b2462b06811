-- Laws of slices that are written one after the other, and of how long they are.
use Rattle.std.proofs.Common.{◌≡◌, ℕ, zero, suc, ◌+◌, ◌-◌, ◌*◌, ◌<◌, ◌≤◌, List, [], ◌∷◌, ◌++◌, length, take, drop, map, get_or, sym, ap, ◌∙◌, subst, arith, add-one, add-zero, zero-add, length-append}
use Rattle.std.proofs.lemmas.List.{length-map, map-append, append-nil, get_or_default}
use Rattle.std.specs.List.{flat_map, range_with_len}
use Rattle.bm_term.specs.SetOf.{set_of}
use Rattle.byte_tables.specs.Pairs.{pair_bytes}
use Rattle.byte_tables.specs.Pieces.{joined}
use Rattle.byte_tables.proofs.PairLaws.{length-flat_map-pair_bytes}
use Rattle.cube_slices.specs.Pairs.{lines_of}
use Rattle.cube_slices.specs.Slices.{bytes_of_lines, entries_of, slice_bytes}
use Rattle.cube_slices.proofs.EntryLaws.{length-entries_of}
use Rattle.cube_slices.proofs.PairLaws.{pairs_of-lines_of}
use Rattle.cube_slices.proofs.WritingLaws.{length-lines_of-le, length-bytes_of_lines-le}
use Rattle.run_rows.specs.declared.form.RowForm.{RowForm}
use Rattle.term_numbers.specs.Order.{Numbered}
use Rattle.index_file.specs.Families.{pair_cmp, pairs_in}
use Rattle.index_file.specs.Image.{pair_slice}
use Rattle.index_file.specs.declared.family.Family.{Family}
use Rattle.index_file.proofs.WritingLaws.{length-joined}
use Rattle.index_image.proofs.ItemLaws.{drop_same}
use Rattle.index_image.proofs.OrderLaws.{pairs_few, set_of_key_pairs}
use Rattle.index_image.proofs.PieceWriterLaws.{PutsPieces-then}
use Rattle.index_image.proofs.SpreadLaws.{key_count-le, keys_before-le, keys_before-more, keys_before-mono}
use Rattle.index_image.specs.steps.Spreading.{key_of, keys_of, key_pairs, key_count, keys_before, AreLeft}
use Rattle.index_image.specs.steps.Writing.{Writing, PutsPieces}

-- ---- the places of one slice

-- a slice ends where its keys do, within the pairs
pub record IsWithin (n start end : ℕ) (keys : List Numbered) (pairs : List (ℕ × ℕ)) : Type 0 where
  pub long : end ≡ start + key_count keys n
  pub before : end ≡ keys_before keys (n + 1)
  pub within : end ≤ length keys
  pub room : end ≤ length pairs
  pub part : take (end - start) (drop start pairs) ≡ key_pairs keys n

pub IsWithin-left : (n start end count : ℕ) (keys : List Numbered) (ends : List ℕ) (pairs : List (ℕ × ℕ)) → AreLeft n keys ends pairs → length ends ≡ count → n < count → start ≡ keys_before keys n → end ≡ get_or ends n end → IsWithin n start end keys pairs
IsWithin-left n start end count keys ends pairs are many low start-is end-is =
    let within : n < length ends = omega (arith, many, low) in
    let before : end ≡ keys_before keys (n + 1) = end-is ∙ get_or_default ends n end 0 within ∙ are.end n within in
    let long : end ≡ start + key_count keys n = omega (arith, before, start-is, keys_before-more keys n) in
    let size : end - start ≡ key_count keys n = omega (arith, long) in
    record {
      long = long;
      before = before;
      within = omega (arith, before, keys_before-le keys (n + 1));
      room = omega (arith, before, keys_before-le keys (n + 1), are.whole);
      part = (λ i. take (size i) (drop (start-is i) pairs)) ∙ are.part n (omega arith) within;
    }

-- when they are in order, they are the pairs of the family there
pub part_in_order : (f : Family) (ts : List Numbered) (n start end : ℕ) (pairs new now part : List (ℕ × ℕ)) → IsWithin n start end (keys_of f ts) pairs → take (end - start) (drop start new) ≡ set_of pair_cmp (take (end - start) (drop start pairs))
    → now ≡ new → part ≡ take (end - start) (drop start now) → part ≡ pairs_in f n ts
part_in_order f ts n start end pairs new now part cut ordered now-is part-is =
    part-is ∙ ap (λ (ps : List (ℕ × ℕ)). take (end - start) (drop start ps)) now-is ∙ ordered ∙ ap (set_of pair_cmp) cut.part ∙ set_of_key_pairs f ts n

-- and the later slices are left
pub AreLeft-after : (n end : ℕ) (keys : List Numbered) (ends : List ℕ) (pairs new : List (ℕ × ℕ)) → AreLeft n keys ends pairs → end ≡ keys_before keys (n + 1) → drop end new ≡ drop end pairs → length new ≡ length pairs → AreLeft (n + 1) keys ends new
AreLeft-after n end keys ends pairs new are end-is same long = record {
  end = are.end;
  part = λ m later within.
      ap (take (key_count keys m)) (drop_same pairs new end (keys_before keys m) (omega (arith, end-is, keys_before-mono keys (n + 1) m later)) same)
      ∙ are.part m (omega arith) within;
  whole = omega (arith, long, are.whole);
}

-- no more pairs are there than triples
pub part_few : (f : Family) (ts : List Numbered) (n : ℕ) (part : List (ℕ × ℕ)) → part ≡ pairs_in f n ts → length part ≤ length ts
part_few f ts n part is = omega (arith, ap length is, pairs_few f ts n, key_count-le (keys_of f ts) n, length-map ts (key_of f))

-- ---- how long slices are

length-slice_bytes : (form : RowForm) (ps : List (ℕ × ℕ)) → length (pair_slice form ps) ≤ 4 + 16 * length ps
unfolding slice_bytes
length-slice_bytes form ps =
    let ls = lines_of ps in
    let entries = flat_map pair_bytes (entries_of form 0 ls) in
    omega (arith, length-append entries (bytes_of_lines form ls), length-flat_map-pair_bytes (entries_of form 0 ls), length-entries_of form 0 ls, length-lines_of-le ps, length-bytes_of_lines-le form ls, ap length (pairs_of-lines_of ps))

-- ---- slice after slice

range_more : (a n : ℕ) → range_with_len a (suc n) ≡ range_with_len a n ++ (a + n) ∷ []
range_more a zero = ap (λ (m : ℕ). m ∷ []) (sym (add-zero a))
range_more a (suc n) =
    let e : a + 1 + n ≡ a + suc n = omega arith in
    ap (λ (l : List ℕ). a ∷ l) (range_more (a + 1) n ∙ ap (λ (m : ℕ). range_with_len (a + 1) n ++ m ∷ []) e)

module _ (slice : ℕ → List ℕ) where
  first_more : (n : ℕ) → map slice (range_with_len 0 (n + 1)) ≡ map slice (range_with_len 0 n) ++ slice n ∷ []
  first_more n =
      ap (λ (m : ℕ). map slice (range_with_len 0 m)) (add-one n)
      ∙ ap (map slice) (range_more 0 n ∙ ap (λ (m : ℕ). range_with_len 0 n ++ m ∷ []) (zero-add n))
      ∙ map-append slice (range_with_len 0 n) (n ∷ [])

  -- one slice more is written
  pub slices_more : (n : ℕ) (a b c : Writing) → PutsPieces a b (map slice (range_with_len 0 n)) → PutsPieces b c (slice n ∷ []) → PutsPieces a c (map slice (range_with_len 0 (n + 1)))
  slices_more n a b c first then = subst (PutsPieces a c) (sym (first_more n)) (PutsPieces-then a b c (map slice (range_with_len 0 n)) (slice n ∷ []) first then)

  -- and is measured
  pub length_more : (n : ℕ) → length (joined (map slice (range_with_len 0 (n + 1)))) ≡ length (joined (map slice (range_with_len 0 n))) + length (slice n)
  length_more n = ap (λ (l : List (List ℕ)). length (joined l)) (first_more n) ∙ length-joined (map slice (range_with_len 0 n)) (slice n ∷ []) ∙ ap (λ (m : ℕ). length (joined (map slice (range_with_len 0 n))) + m) (ap length (append-nil (slice n)))

  first_from : (a n count : ℕ) → n < count → length (joined (map slice (range_with_len a n))) + length (slice (a + n)) ≤ length (joined (map slice (range_with_len a count)))
  first_from a n zero low = absurd (omega arith)
  first_from a zero (suc count) low =
      let at : length (slice (a + 0)) ≡ length (slice a) = ap (λ (m : ℕ). length (slice m)) (add-zero a) in
      omega (arith, length-append (slice a) (joined (map slice (range_with_len (a + 1) count))))
  first_from a (suc n) (suc count) low =
      let rest = first_from (a + 1) n count (omega arith) in
      let e : a + suc n ≡ a + 1 + n = omega arith in
      let at : length (slice (a + suc n)) ≡ length (slice (a + 1 + n)) = ap (λ (m : ℕ). length (slice m)) e in
      omega (arith, length-append (slice a) (joined (map slice (range_with_len (a + 1) count))), length-append (slice a) (joined (map slice (range_with_len (a + 1) n))))

  -- the first slices and the next are no longer than all
  pub first_fit : (n count : ℕ) → n < count → length (joined (map slice (range_with_len 0 n))) + length (slice n) ≤ length (joined (map slice (range_with_len 0 count)))
  first_fit n count low =
      let at : length (slice (0 + n)) ≡ length (slice n) = ap (λ (m : ℕ). length (slice m)) (zero-add n) in
      omega (arith, first_from 0 n count low)

-- four bytes a slice and sixteen a key at most
pub slices_are_short : (form : RowForm) (f : Family) (ts : List Numbered) (count : ℕ) → length (joined (map (λ n. pair_slice form (pairs_in f n ts)) (range_with_len 0 count))) ≤ 4 * count + 16 * keys_before (keys_of f ts) count
slices_are_short form f ts zero = omega arith
slices_are_short form f ts (suc count) =
    let slice = λ (n : ℕ). pair_slice form (pairs_in f n ts) in
    omega (
      arith,
      slices_are_short form f ts count,
      ap (λ n. length (joined (map slice (range_with_len 0 n)))) (add-one count),
      length_more slice count,
      length-slice_bytes form (pairs_in f count ts),
      pairs_few f ts count,
    )
