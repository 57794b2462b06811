-- Laws of a table of pieces that is being written.
use Rattle.std.proofs.Common.{◌≡◌, ℕ, zero, suc, ◌+◌, ◌-◌, ◌*◌, ◌<◌, List, [], ◌∷◌, ◌++◌, length, take, drop, refl, sym, ap, ◌∙◌, arith, append_assoc, length-append, length-drop}
use Rattle.std.proofs.Math.Seq.{take-append_seam, drop-append-add}
use Rattle.std.proofs.lemmas.Grind.{flat_map-append}
use Rattle.std.proofs.lemmas.List.{length-take, take-append-le, drop-append-le, take-take, drop-take, take-append-drop, drop-drop, append-nil}
use Rattle.std.specs.Int.{w32, to_le_bytes}
use Rattle.byte_tables.specs.Numbers.{number_bytes}
use Rattle.byte_tables.specs.Pieces.{joined, ends_from}
use Rattle.index_image.specs.steps.Writing.{Writing, writing_at, IsWritingAt, with_end, PutsPieces}

-- ---- bytes that are written

-- what is put at the end belongs to the pieces
pub writing-append : (table next left : ℕ) (bytes more : List ℕ) → IsWritingAt table next left bytes
    → writing_at table next left (bytes ++ more)
    ≡ record { front = take table bytes; starts = take (next - table) (drop table bytes); left = left; pieces = drop (next + 4 * left) bytes ++ more }
writing-append table next left bytes more at =
    let room = at.room in
    let first = at.table_first in
    let front : take table (bytes ++ more) ≡ take table bytes = take-append-le table bytes more (omega arith) in
    let starts : take (next - table) (drop table (bytes ++ more)) ≡ take (next - table) (drop table bytes) =
    ap (take (next - table)) (drop-append-le table bytes more (omega arith)) ∙ take-append-le (next - table) (drop table bytes) more (omega (arith, length-drop table bytes)) in
    let pieces : drop (next + 4 * left) (bytes ++ more) ≡ drop (next + 4 * left) bytes ++ more = drop-append-le (next + 4 * left) bytes more (omega arith) in
    λ i. record { front = front i; starts = starts i; left = left; pieces = pieces i }

pub put_bytes : (w : Writing) (table next left : ℕ) (bytes more new : List ℕ) → IsWritingAt table next left bytes → writing_at table next left bytes ≡ w → new ≡ bytes ++ more
    → writing_at table next left new ≡ record { front = w.front; starts = w.starts; left = w.left; pieces = w.pieces ++ more }
put_bytes w table next left bytes more new at view new-is =
    ap (writing_at table next left) new-is ∙ writing-append table next left bytes more at
    ∙ (λ i. record { front = (view i).front; starts = (view i).starts; left = (view i).left; pieces = (view i).pieces ++ more })

-- a start that is written over its place belongs to the starts
pub writing-start : (table next left : ℕ) (bytes number new : List ℕ) → IsWritingAt table next (suc left) bytes → length number ≡ 4
    → new ≡ take next bytes ++ (number ++ drop (next + 4) bytes)
    → writing_at table (next + 4) left new
    ≡ record { front = take table bytes; starts = take (next - table) (drop table bytes) ++ number; left = left; pieces = drop (next + 4 * suc left) bytes }
writing-start table next left bytes number new at four new-is =
    let room = at.room in
    let first = at.table_first in
    let before = take next bytes in
    let after = number ++ drop (next + 4) bytes in
    let long : length before ≡ next = omega (arith, length-take next bytes) in
    let started = take (next - table) (drop table bytes) in
    let front : take table new ≡ take table bytes = ap (take table) new-is ∙ take-append-le table before after (omega arith) ∙ take-take table next bytes first in
    let rest : drop table new ≡ started ++ after =
    ap (drop table) new-is ∙ drop-append-le table before after (omega arith)
    ∙ ap (λ l. l ++ after) (ap (λ n. drop table (take n bytes)) (let e : next ≡ table + (next - table) = omega arith in e) ∙ drop-take table (next - table) bytes) in
    let started_long : length started ≡ next - table = omega (arith, length-take (next - table) (drop table bytes), length-drop table bytes) in
    let whole : next + 4 - table ≡ length (started ++ number) = omega (arith, length-append started number) in
    let starts : take (next + 4 - table) (drop table new) ≡ started ++ number =
    ap (take (next + 4 - table)) (rest ∙ sym (append_assoc started number (drop (next + 4) bytes)))
    ∙ ap (λ n. take n ((started ++ number) ++ drop (next + 4) bytes)) whole ∙ take-append_seam (started ++ number) (drop (next + 4) bytes) in
    let written : length (before ++ number) ≡ next + 4 = omega (arith, length-append before number) in
    let place : next + 4 + 4 * left ≡ length (before ++ number) + 4 * left = omega arith in
    let later : next + 4 + 4 * left ≡ next + 4 * suc left = omega arith in
    let pieces : drop (next + 4 + 4 * left) new ≡ drop (next + 4 * suc left) bytes =
    ap (drop (next + 4 + 4 * left)) (new-is ∙ sym (append_assoc before number (drop (next + 4) bytes)))
    ∙ ap (λ n. drop n ((before ++ number) ++ drop (next + 4) bytes)) place ∙ drop-append-add (before ++ number) (drop (next + 4) bytes) (4 * left)
    ∙ drop-drop (4 * left) (next + 4) bytes ∙ ap (λ n. drop n bytes) later in
    λ i. record { front = front i; starts = starts i; left = left; pieces = pieces i }

-- the end of a piece is written
pub end_written : (w : Writing) (table next left : ℕ) (bytes number new : List ℕ) → IsWritingAt table next left bytes → writing_at table next left bytes ≡ w → 0 < w.left
    → number ≡ to_le_bytes w32 (length (drop (next + 4 * left) bytes)) → new ≡ take next bytes ++ (number ++ drop (next + 4) bytes) → writing_at table (next + 4) (left - 1) new ≡ with_end w
end_written w table next zero bytes number new at view some number-is new-is = absurd (omega (arith, ap (λ (v : Writing). v.left) view))
end_written w table next (suc left) bytes number new at view some number-is new-is =
    let one : suc left - 1 ≡ left = omega arith in
    let four : length number ≡ 4 = ap length number-is in
    (λ i. writing_at table (next + 4) (one i) new)
    ∙ writing-start table next left bytes number new at four new-is
    ∙ (λ i. record { front = take table bytes; starts = take (next - table) (drop table bytes) ++ number-is i; left = sym one i; pieces = drop (next + 4 * suc left) bytes })
    ∙ ap with_end view

-- where no start is to come, the parts are all bytes
pub written_bytes : (w : Writing) (table next left : ℕ) (bytes : List ℕ) → IsWritingAt table next left bytes → writing_at table next left bytes ≡ w → w.left ≡ 0 → bytes ≡ w.front ++ (w.starts ++ w.pieces)
written_bytes w table next left bytes at view none =
    let first = at.table_first in
    let place : table + (next - table) ≡ next + 4 * left = omega (arith, ap (λ (v : Writing). v.left) view) in
    sym (take-append-drop table bytes)
    ∙ ap (λ l. take table bytes ++ l) (sym (take-append-drop (next - table) (drop table bytes))
    ∙ ap (λ l. take (next - table) (drop table bytes) ++ l) (drop-drop (next - table) table bytes ∙ ap (λ n. drop n bytes) place))
    ∙ (λ i. (view i).front ++ ((view i).starts ++ (view i).pieces))

-- ---- pieces that are put

ends_from-append : (from : ℕ) (ps qs : List (List ℕ)) → ends_from from (ps ++ qs) ≡ ends_from from ps ++ ends_from (from + length (joined ps)) qs
ends_from-append from [] qs = let e : from ≡ from + 0 = omega arith in ap (λ n. ends_from n qs) e
ends_from-append from (p ∷ ps) qs =
    let e : from + length p + length (joined ps) ≡ from + length (p ++ joined ps) = omega (arith, length-append p (joined ps)) in
    ap (λ l. (from + length p) ∷ l) (ends_from-append (from + length p) ps qs ∙ ap (λ n. ends_from (from + length p) ps ++ ends_from n qs) e)

number_bytes-append : (xs ys : List ℕ) → number_bytes (xs ++ ys) ≡ number_bytes xs ++ number_bytes ys
unfolding number_bytes
number_bytes-append xs ys = flat_map-append (to_le_bytes w32) xs ys

number_bytes-one : (n : ℕ) → number_bytes (n ∷ []) ≡ to_le_bytes w32 n
unfolding number_bytes
number_bytes-one n = append-nil (to_le_bytes w32 n)

number_bytes-none : number_bytes [] ≡ []
unfolding number_bytes
number_bytes-none = refl

pub PutsPieces-none : (w : Writing) → PutsPieces w w []
PutsPieces-none w = record {
  front = refl;
  starts = sym (ap (λ l. w.starts ++ l) number_bytes-none ∙ append-nil w.starts);
  left = omega arith;
  pieces = sym (append-nil w.pieces);
}

-- one piece, and then its end
pub PutsPieces-one : (old put new : Writing) (piece : List ℕ) → 0 < old.left
    → put ≡ record { front = old.front; starts = old.starts; left = old.left; pieces = old.pieces ++ piece } → new ≡ with_end put → PutsPieces old new (piece ∷ [])
PutsPieces-one old put new piece some put-is new-is =
    let is : new ≡ with_end (record { front = old.front; starts = old.starts; left = old.left; pieces = old.pieces ++ piece }) = new-is ∙ ap with_end put-is in
    record {
      front = ap (λ (w : Writing). w.front) is;
      starts = ap (λ (w : Writing). w.starts) is ∙ ap (λ l. old.starts ++ l) (ap (to_le_bytes w32) (length-append old.pieces piece) ∙ sym (number_bytes-one (length old.pieces + length piece)));
      left = omega (arith, ap (λ (w : Writing). w.left) is);
      pieces = ap (λ (w : Writing). w.pieces) is ∙ ap (λ l. old.pieces ++ l) (sym (append-nil piece));
    }

-- pieces, and then others
pub PutsPieces-then : (a b c : Writing) (ps qs : List (List ℕ)) → PutsPieces a b ps → PutsPieces b c qs → PutsPieces a c (ps ++ qs)
PutsPieces-then a b c ps qs first second =
    let long : length b.pieces ≡ length a.pieces + length (joined ps) = ap length first.pieces ∙ length-append a.pieces (joined ps) in
    record {
      front = second.front ∙ first.front;
      starts =
          second.starts ∙ (λ i. first.starts i ++ number_bytes (ends_from (long i) qs))
          ∙ append_assoc a.starts (number_bytes (ends_from (length a.pieces) ps)) (number_bytes (ends_from (length a.pieces + length (joined ps)) qs))
          ∙ ap (λ l. a.starts ++ l) (sym (ap number_bytes (ends_from-append (length a.pieces) ps qs) ∙ number_bytes-append (ends_from (length a.pieces) ps) (ends_from (length a.pieces + length (joined ps)) qs)));
      left = omega (arith, length-append ps qs, first.left, second.left);
      pieces =
          second.pieces ∙ ap (λ l. l ++ joined qs) first.pieces ∙ append_assoc a.pieces (joined ps) (joined qs)
          ∙ ap (λ l. a.pieces ++ l) (sym (flat_map-append (λ p. p) ps qs));
    }
