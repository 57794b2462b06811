-- Laws of tables of pieces: the starts and the bytes, and the pieces, determine each other.
use Rattle.std.proofs.Common.{◌≡◌, ℕ, zero, suc, ◌+◌, ◌-◌, ◌<◌, ◌≤◌, List, [], ◌∷◌, ◌++◌, length, get_or, take, drop, refl, sym, ap, ◌∙◌, subst, arith, add-one, length-append}
use Rattle.std.proofs.lemmas.List.{length-take, length-drop, take_at, drop_at, take-append-drop, drop-drop, drop_all, drop_more}
use Rattle.byte_tables.specs.Pieces.{joined, ends_from, starts_of, cut_from, pieces_at, AscendTo, CutWhole, HaveBytes}

-- ---- from pieces to a table and back

cut_from-ends_from : (from : ℕ) (ps : List (List ℕ)) → cut_from from (ends_from from ps) (joined ps) ≡ ps
cut_from-ends_from from [] = refl
cut_from-ends_from from (p ∷ ps) =
    let gap : from + length p - from ≡ length p = omega arith in
    rw gap (rw (take_at p (joined ps) (length p) refl, drop_at p (joined ps) (length p) refl) (ap (λ (qs : List (List ℕ)). p ∷ qs) (cut_from-ends_from (from + length p) ps)))

-- the starts of pieces cut them out of their bytes
pub pieces_at-starts_of : (ps : List (List ℕ)) → pieces_at (starts_of ps) (joined ps) ≡ ps
pieces_at-starts_of ps = cut_from-ends_from 0 ps

AscendTo-ends_from : (last from : ℕ) (ps : List (List ℕ)) → HaveBytes ps → last ≡ from + length (joined ps) → AscendTo last from (ends_from from ps)
AscendTo-ends_from last from [] have all = omega arith
AscendTo-ends_from last from (p ∷ ps) have all =
    (omega (arith, have.0), AscendTo-ends_from last (from + length p) ps have.1 (omega (arith, length-append p (joined ps))))

-- the starts of pieces that have bytes cut all bytes
pub CutWhole-starts_of : (ps : List (List ℕ)) → HaveBytes ps → CutWhole (length (joined ps)) (starts_of ps)
CutWhole-starts_of ps have = (refl, AscendTo-ends_from (length (joined ps)) 0 ps have (omega arith))

length-ends_from : (from : ℕ) (ps : List (List ℕ)) → length (ends_from from ps) ≡ length ps
length-ends_from from [] = refl
length-ends_from from (p ∷ ps) = ap suc (length-ends_from (from + length p) ps)

-- one start more than there are pieces
pub length-starts_of : (ps : List (List ℕ)) → length (starts_of ps) ≡ length ps + 1
length-starts_of ps = omega (arith, length-ends_from 0 ps)

-- ---- from a table to pieces and back

-- ends that ascend to the last are not past it
pub AscendTo-le : (last from : ℕ) (es : List ℕ) → AscendTo last from es → from ≤ last
AscendTo-le last from [] ascend = omega arith
AscendTo-le last from (e ∷ es) ascend = omega (arith, AscendTo-le last e es ascend.1)

-- the pieces that ends cut have all bytes, those ends, and a byte each
pub record IsCut (from : ℕ) (ends bytes : List ℕ) (pieces : List (List ℕ)) : Type 0 where
  pub all : joined pieces ≡ bytes
  pub ends_are : ends_from from pieces ≡ ends
  pub have : HaveBytes pieces

IsCut-cut_from : (last from : ℕ) (es bytes : List ℕ) → AscendTo last from es → last ≡ from + length bytes → IsCut from es bytes (cut_from from es bytes)
IsCut-cut_from last from [] bytes ascend all =
    record { all = sym (empty bytes (omega arith)); ends_are = refl; have = tt }
  where
    empty : (bs : List ℕ) → length bs ≡ 0 → bs ≡ []
    empty [] none = refl
    empty (b ∷ bs) none = absurd (omega arith)
IsCut-cut_from last from (e ∷ es) bytes ascend all =
    let up = ascend.0 in
    let below = AscendTo-le last e es ascend.1 in
    let piece : length (take (e - from) bytes) ≡ e - from = omega (arith, length-take (e - from) bytes) in
    let end : from + length (take (e - from) bytes) ≡ e = omega arith in
    let behind = IsCut-cut_from last e es (drop (e - from) bytes) ascend.1 (omega (arith, length-drop (e - from) bytes)) in
    record {
      all = ap (λ (bs : List ℕ). take (e - from) bytes ++ bs) behind.all ∙ take-append-drop (e - from) bytes;
      ends_are = rw end (ap (λ (ns : List ℕ). e ∷ ns) behind.ends_are);
      have = (omega arith, behind.have);
    }

-- the pieces of a table that cuts all bytes: their bytes and their starts are those of the table, and each has a byte
pub record IsTable (starts bytes : List ℕ) : Type 0 where
  pub all : joined (pieces_at starts bytes) ≡ bytes
  pub starts_are : starts_of (pieces_at starts bytes) ≡ starts
  pub have : HaveBytes (pieces_at starts bytes)

pub IsTable-cut : (starts bytes : List ℕ) → CutWhole (length bytes) starts → IsTable starts bytes
IsTable-cut [] bytes cut = absurd cut
IsTable-cut (s ∷ es) bytes cut =
    let parts = IsCut-cut_from (length bytes) s es bytes cut.1 (omega (arith, cut.0)) in
    let first = cut.0 in
    record {
      all = parts.all;
      starts_are = subst (λ (n : ℕ). n ∷ ends_from n (cut_from s es bytes) ≡ s ∷ es) first (ap (λ (ns : List ℕ). s ∷ ns) parts.ends_are);
      have = parts.have;
    }

-- ---- one piece

-- the piece in place i lies between two ends
record IsPiece (i from last start end : ℕ) (bytes : List ℕ) (pieces : List (List ℕ)) : Type 0 where
  pub after : from ≤ start
  pub up : start < end
  pub within : end ≤ last
  pub piece : drop i pieces ≡ take (end - start) (drop (start - from) bytes) ∷ drop (i + 1) pieces

piece_from : (i last from start end : ℕ) (es behind bytes : List ℕ) → AscendTo last from es → last ≡ from + length bytes → drop i (from ∷ es) ≡ start ∷ end ∷ behind → IsPiece i from last start end bytes (cut_from from es bytes)
piece_from zero last from start end [] behind bytes ascend all at = absurd cc
piece_from zero last from start end (e ∷ es) behind bytes ascend all at =
    let first : from ≡ start = cc in
    let second : e ≡ end = cc in
    let none : start - from ≡ 0 = omega arith in
    let gap : e - from ≡ end - start = omega arith in
    record {
      after = omega arith;
      up = omega (arith, ascend.0);
      within = omega (arith, AscendTo-le last e es ascend.1);
      piece = rw (none, ← gap) refl;
    }
piece_from (suc i) last from start end [] behind bytes ascend all at = absurd (let none = drop_all i (let xs : List ℕ = [] in xs) (omega arith) in cc)
piece_from (suc i) last from start end (e ∷ es) behind bytes ascend all at =
    let up = ascend.0 in
    let below = AscendTo-le last e es ascend.1 in
    let rest = drop (e - from) bytes in
    let there = piece_from i last e start end es behind rest ascend.1 (omega (arith, length-drop (e - from) bytes)) at in
    let after = there.after in
    let steps : e - from + (start - e) ≡ start - from = omega arith in
    let same : drop (start - e) rest ≡ drop (start - from) bytes = drop-drop (start - e) (e - from) bytes ∙ ap (λ (n : ℕ). drop n bytes) steps in
    record {
      after = omega arith;
      up = there.up;
      within = there.within;
      piece = there.piece ∙ ap (λ (bs : List ℕ). take (end - start) bs ∷ drop (i + 1) (cut_from e es rest)) same ∙ simp add-one;
    }

-- the same in a table, from two starts one after the other
pub record IsPieceOf (i start end : ℕ) (bytes : List ℕ) (pieces : List (List ℕ)) : Type 0 where
  pub up : start < end
  pub within : end ≤ length bytes
  pub piece : drop i pieces ≡ take (end - start) (drop start bytes) ∷ drop (i + 1) pieces

IsPieceOf-whole : (i start end : ℕ) (starts behind bytes : List ℕ) → CutWhole (length bytes) starts → drop i starts ≡ start ∷ end ∷ behind → IsPieceOf i start end bytes (pieces_at starts bytes)
IsPieceOf-whole i start end [] behind bytes cut at = absurd cut
IsPieceOf-whole i start end (s ∷ es) behind bytes cut at =
    let first : s ≡ 0 = cut.0 in
    let there = piece_from i (length bytes) s start end es behind bytes cut.1 (omega arith) at in
    let from_start : start - s ≡ start = omega arith in
    record { up = there.up; within = there.within; piece = rw from_start at there.piece }

-- two starts that were read one after the other
pub IsPieceOf-read : (i start end : ℕ) (starts bytes : List ℕ) → CutWhole (length bytes) starts → drop i starts ≡ start ∷ drop (i + 1) starts → drop (i + 1) starts ≡ end ∷ drop (i + 1 + 1) starts → IsPieceOf i start end bytes (pieces_at starts bytes)
IsPieceOf-read i start end starts bytes cut at next =
    IsPieceOf-whole i start end starts (drop (i + 1 + 1) starts) bytes cut (at ∙ ap (λ (ns : List ℕ). start ∷ ns) next)

pub IsPieceOf-indexed : (i : ℕ) (starts bytes : List ℕ) → CutWhole (length bytes) starts → i + 1 < length starts → IsPieceOf i (get_or starts i 0) (get_or starts (i + 1) 0) bytes (pieces_at starts bytes)
IsPieceOf-indexed i starts bytes cut within =
    IsPieceOf-read i (get_or starts i 0) (get_or starts (i + 1) 0) starts bytes cut (drop_more starts i 0 (omega arith)) (drop_more starts (i + 1) 0 within)
