-- Laws of tables of pieces that are read from bytes: how many pieces there are, and which last start there can be.
use Rattle.std.proofs.Common.{◌≡◌, ℕ, ◌+◌, ◌*◌, ◌/◌, ◌^◌, ◌<◌, List, [], ◌∷◌, length, refl, sym, ap, ◌∙◌, arith}
use Rattle.byte_tables.specs.Numbers.{numbers_in, AllFit32, IsBytes}
use Rattle.byte_tables.specs.Pieces.{pieces_at, AscendTo, CutWhole}
use Rattle.byte_tables.proofs.NumberLaws.{IsBytes-take, IsBytes-drop, ReadWhole-bytes, length-numbers_in-le}
use Rattle.byte_tables.proofs.PieceLaws.{IsTable-cut, length-starts_of}

-- up to three bytes behind the last number are none
pub length-numbers_in-above : (bytes : List ℕ) → length bytes < 4 * length (numbers_in bytes) + 4
unfolding numbers_in
length-numbers_in-above (a ∷ b ∷ c ∷ d ∷ rest) = omega (arith, length-numbers_in-above rest)
length-numbers_in-above [] = omega arith
length-numbers_in-above (a ∷ []) = omega arith
length-numbers_in-above (a ∷ b ∷ []) = omega arith
length-numbers_in-above (a ∷ b ∷ c ∷ []) = omega arith

-- numbers that are read fit in four bytes
pub numbers_in-fit : (bytes : List ℕ) → IsBytes bytes → AllFit32 (numbers_in bytes)
unfolding numbers_in
numbers_in-fit (a ∷ b ∷ c ∷ d ∷ rest) fits = ((ReadWhole-bytes 1 (a ∷ b ∷ c ∷ d ∷ []) (IsBytes-take 4 (a ∷ b ∷ c ∷ d ∷ rest) fits) refl).fit.0, numbers_in-fit rest (IsBytes-drop 4 (a ∷ b ∷ c ∷ d ∷ rest) fits))
numbers_in-fit _ fits = tt

-- the last of ends that fit in four bytes does so too
last_fits : (last from : ℕ) (es : List ℕ) → from < 2 ^ 32 → AllFit32 es → AscendTo last from es → last < 2 ^ 32
last_fits last from [] fits all ascend = omega arith
last_fits last from (e ∷ es) fits all ascend = last_fits last e es all.0 all.1 ascend.1

pub whole_fits : (last : ℕ) (starts : List ℕ) → IsBytes starts → CutWhole last (numbers_in starts) → last < 2 ^ 32
whole_fits last starts fits cut = by (numbers_in starts) (numbers_in-fit starts fits) cut
  where
    by : (ns : List ℕ) → AllFit32 ns → CutWhole last ns → last < 2 ^ 32
    by [] all cut = absurd cut
    by (n ∷ ns) all cut = last_fits last n ns all.0 all.1 cut.1

-- a table has one start more than pieces
pub length-pieces_at : (starts bytes : List ℕ) → CutWhole (length bytes) starts → length (pieces_at starts bytes) + 1 ≡ length starts
length-pieces_at starts bytes cut =
    sym (length-starts_of (pieces_at starts bytes)) ∙ ap length (IsTable-cut starts bytes cut).starts_are

-- a start is four bytes
pub starts_of_table : (starts bytes : List ℕ) → CutWhole (length bytes) (numbers_in starts) → length starts / 4 ≡ length (pieces_at (numbers_in starts) bytes) + 1
starts_of_table starts bytes cut =
    omega (arith, length-numbers_in-le starts, length-numbers_in-above starts, length-pieces_at (numbers_in starts) bytes cut)
