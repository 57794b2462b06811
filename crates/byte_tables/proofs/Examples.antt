-- Worked examples of the definitions.
use Rattle.std.proofs.Common.{◌≡◌, ℕ, List, [], ◌∷◌, refl, arith}
use Rattle.byte_tables.specs.Numbers.{number_bytes, numbers_in}
use Rattle.byte_tables.specs.Pairs.{pair_bytes, pairs_in}
use Rattle.byte_tables.specs.Pieces.{starts_of, pieces_at, CutWhole}
use Rattle.byte_tables.specs.Writing.{BeginsWith}

-- 1 and 258, the lowest byte first
bytes_of_numbers : number_bytes (1 ∷ 258 ∷ []) ≡ 1 ∷ 0 ∷ 0 ∷ 0 ∷ 2 ∷ 1 ∷ 0 ∷ 0 ∷ []
unfolding number_bytes
bytes_of_numbers = refl

-- the ninth byte is no number
numbers_of_bytes : numbers_in (1 ∷ 0 ∷ 0 ∷ 0 ∷ 2 ∷ 1 ∷ 0 ∷ 0 ∷ 7 ∷ []) ≡ 1 ∷ 258 ∷ []
unfolding numbers_in
numbers_of_bytes = refl

bytes_of_pair : pair_bytes (3, 256) ≡ 3 ∷ 0 ∷ 0 ∷ 0 ∷ 0 ∷ 1 ∷ 0 ∷ 0 ∷ []
unfolding pair_bytes
bytes_of_pair = refl

pairs_of_bytes : pairs_in (3 ∷ 0 ∷ 0 ∷ 0 ∷ 0 ∷ 1 ∷ 0 ∷ 0 ∷ []) ≡ (3, 256) ∷ []
unfolding pairs_in
pairs_of_bytes = refl

-- two pieces, of two bytes and of one
two_pieces : List (List ℕ)
two_pieces = (7 ∷ 8 ∷ []) ∷ (9 ∷ []) ∷ []

starts : starts_of two_pieces ≡ 0 ∷ 2 ∷ 3 ∷ []
unfolding two_pieces
starts = refl

pieces : pieces_at (0 ∷ 2 ∷ 3 ∷ []) (7 ∷ 8 ∷ 9 ∷ []) ≡ two_pieces
unfolding two_pieces
pieces = refl

cut : CutWhole 3 (0 ∷ 2 ∷ 3 ∷ [])
cut = (refl, (omega arith, (omega arith, refl)))

-- a piece without a byte
twice : CutWhole 3 (0 ∷ 3 ∷ 3 ∷ []) → ⊥
twice whole = omega (arith, whole.1.1.0)

-- no piece, and so no byte
no_piece : CutWhole 0 (0 ∷ [])
no_piece = (refl, refl)

front : BeginsWith (7 ∷ 8 ∷ 9 ∷ []) (7 ∷ 8 ∷ [])
front = refl
