-- Laws of pairs in bytes: the bytes and the pairs determine each other.
use Rattle.std.proofs.Common.{◌≡◌, ℕ, zero, suc, ◌+◌, ◌*◌, ◌^◌, ◌<◌, ◌≤◌, List, [], ◌∷◌, ◌++◌, length, take, drop, refl, sym, ap, ◌∙◌, arith}
use Rattle.std.proofs.lemmas.Nat.{le_bytes_4, from_le_bytes-to_le_bytes_4}
use Rattle.std.proofs.lemmas.List.{drop-drop}
use Rattle.std.specs.List.{flat_map}
use Rattle.std.specs.Int.{w32, to_le_bytes, from_le_bytes}
use Rattle.byte_tables.specs.Numbers.{IsBytes}
use Rattle.byte_tables.specs.Pairs.{pair_bytes, pairs_in, PairsFit32}
use Rattle.byte_tables.proofs.NumberLaws.{IsBytes-take, IsBytes-drop}

-- the first eight bytes are those of the pair that they spell
pub pair_read : (bytes : List ℕ) (p : ℕ × ℕ) → 8 ≤ length bytes → IsBytes bytes → p.0 ≡ from_le_bytes w32 bytes → p.1 ≡ from_le_bytes w32 (drop 4 bytes) → bytes ≡ pair_bytes p ++ drop 8 bytes
unfolding pair_bytes
pair_read (a ∷ b ∷ c ∷ d ∷ e ∷ f ∷ g ∷ h ∷ rest) p size fits first-is second-is =
    let bytes = a ∷ b ∷ c ∷ d ∷ e ∷ f ∷ g ∷ h ∷ rest in
    let front = le_bytes_4 (take 4 bytes) p.0 refl (IsBytes-take 4 bytes fits) first-is in
    let back = le_bytes_4 (take 4 (drop 4 bytes)) p.1 refl (IsBytes-take 4 (drop 4 bytes) (IsBytes-drop 4 bytes fits)) second-is in
    sym (ap (λ (q : List ℕ). q ++ to_le_bytes w32 p.1 ++ rest) front ∙ ap (λ (q : List ℕ). take 4 bytes ++ q ++ rest) back)
pair_read _ p size fits first-is second-is = absurd (omega arith)

-- the bytes of a pair, in front of others, are that pair
pub pairs_in-pair_bytes : (p : ℕ × ℕ) (rest : List ℕ) → p.0 < 2 ^ 32 → p.1 < 2 ^ 32 → pairs_in (pair_bytes p ++ rest) ≡ p ∷ pairs_in rest
unfolding pair_bytes pairs_in
pairs_in-pair_bytes p rest first second = rw (from_le_bytes-to_le_bytes_4 p.0 first, from_le_bytes-to_le_bytes_4 p.1 second) refl

-- fewer than eight bytes are no pair
pub pairs_in_short : (bytes : List ℕ) → length bytes < 8 → pairs_in bytes ≡ []
unfolding pairs_in
pairs_in_short (a ∷ b ∷ c ∷ d ∷ e ∷ f ∷ g ∷ h ∷ rest) short = absurd (omega arith)
pairs_in_short _ short = refl

-- eight bytes less are a pair less
pairs_in-drop_8 : (bytes : List ℕ) → pairs_in (drop 8 bytes) ≡ drop 1 (pairs_in bytes)
unfolding pairs_in
pairs_in-drop_8 (a ∷ b ∷ c ∷ d ∷ e ∷ f ∷ g ∷ h ∷ rest) = refl
pairs_in-drop_8 _ = refl

-- the pairs from place i on stand in the bytes from 8 * i on
pub pairs_in-drop : (i : ℕ) (bytes : List ℕ) → pairs_in (drop (8 * i) bytes) ≡ drop i (pairs_in bytes)
pairs_in-drop zero bytes = refl
pairs_in-drop (suc i) bytes =
    let eight : 8 * suc i ≡ 8 + 8 * i = omega arith in
    let one : 1 + i ≡ suc i = omega arith in
    rw eight (rw (← drop-drop (8 * i) 8 bytes) (pairs_in-drop i (drop 8 bytes) ∙ ap (drop i) (pairs_in-drop_8 bytes) ∙ drop-drop i 1 (pairs_in bytes) ∙ ap (λ (n : ℕ). drop n (pairs_in bytes)) one))

-- the pair that the bytes from 8 * i on begin with stands in place i
pub pair_in_place : (i : ℕ) (p : ℕ × ℕ) (bytes : List ℕ) → pairs_in (drop (8 * i) bytes) ≡ p ∷ pairs_in (drop 8 (drop (8 * i) bytes)) → drop i (pairs_in bytes) ≡ p ∷ drop (i + 1) (pairs_in bytes)
pair_in_place i p bytes begins =
    let behind = pairs_in-drop_8 (drop (8 * i) bytes) ∙ ap (drop 1) (pairs_in-drop i bytes) ∙ drop-drop 1 i (pairs_in bytes) in
    sym (pairs_in-drop i bytes) ∙ begins ∙ ap (λ (ps : List (ℕ × ℕ)). p ∷ ps) behind

-- what was written is read again
pub pairs_in-flat_map : (ps : List (ℕ × ℕ)) → PairsFit32 ps → pairs_in (flat_map pair_bytes ps) ≡ ps
pairs_in-flat_map [] fits = pairs_in_short [] (omega arith)
pairs_in-flat_map (p ∷ ps) fits =
    pairs_in-pair_bytes p (flat_map pair_bytes ps) fits.0 fits.1 ∙ ap (λ (qs : List (ℕ × ℕ)). p ∷ qs) (pairs_in-flat_map ps fits.2)

-- a pair takes eight bytes
pub length-pair_bytes : (p : ℕ × ℕ) → length (pair_bytes p) ≡ 8
unfolding pair_bytes
length-pair_bytes p = refl

pub length-flat_map-pair_bytes : (ps : List (ℕ × ℕ)) → length (flat_map pair_bytes ps) ≡ 8 * length ps
unfolding pair_bytes
length-flat_map-pair_bytes [] = refl
length-flat_map-pair_bytes (p ∷ ps) = omega (arith, length-flat_map-pair_bytes ps)

-- whole pairs spell their bytes
pub pairs_written : (n : ℕ) (bytes : List ℕ) → IsBytes bytes → length bytes ≡ 8 * n → flat_map pair_bytes (pairs_in bytes) ≡ bytes
unfolding pairs_in
pairs_written zero [] fits size = refl
pairs_written zero (b ∷ bytes) fits size = absurd (omega arith)
pairs_written (suc n) (a ∷ b ∷ c ∷ d ∷ e ∷ f ∷ g ∷ h ∷ rest) fits size =
    let bytes = a ∷ b ∷ c ∷ d ∷ e ∷ f ∷ g ∷ h ∷ rest in
    let p : ℕ × ℕ = (from_le_bytes w32 (a ∷ b ∷ c ∷ d ∷ []), from_le_bytes w32 (e ∷ f ∷ g ∷ h ∷ [])) in
    let first = pair_read bytes p (omega arith) fits refl refl in
    ap (λ (q : List ℕ). pair_bytes p ++ q) (pairs_written n rest (IsBytes-drop 8 bytes fits) (omega arith)) ∙ sym first
pairs_written (suc n) _ fits size = absurd (omega arith)

-- whole pairs are as many as their bytes have room for
pub length-pairs_in : (n : ℕ) (bytes : List ℕ) → length bytes ≡ 8 * n → length (pairs_in bytes) ≡ n
unfolding pairs_in
length-pairs_in zero [] size = refl
length-pairs_in zero (b ∷ bytes) size = absurd (omega arith)
length-pairs_in (suc n) (a ∷ b ∷ c ∷ d ∷ e ∷ f ∷ g ∷ h ∷ rest) size = ap suc (length-pairs_in n rest (omega arith))
length-pairs_in (suc n) _ size = absurd (omega arith)

-- each pair has its eight bytes
pub length-pairs_in-le : (bytes : List ℕ) → 8 * length (pairs_in bytes) ≤ length bytes
unfolding pairs_in
length-pairs_in-le (a ∷ b ∷ c ∷ d ∷ e ∷ f ∷ g ∷ h ∷ rest) = omega (arith, length-pairs_in-le rest)
length-pairs_in-le _ = omega arith

pair_fits : (a b c d e f g h : ℕ) (rest : List ℕ) → IsBytes (a ∷ b ∷ c ∷ d ∷ e ∷ f ∷ g ∷ h ∷ rest) → (from_le_bytes w32 (a ∷ b ∷ c ∷ d ∷ []) < 2 ^ 32) × (from_le_bytes w32 (e ∷ f ∷ g ∷ h ∷ []) < 2 ^ 32)
pair_fits a b c d e f g h rest fits =
    (omega (arith, fits 0, fits 1, fits 2, fits 3), omega (arith, fits 4, fits 5, fits 6, fits 7))

-- the numbers of pairs that were read fit
pub PairsFit32-pairs_in : (bytes : List ℕ) → IsBytes bytes → PairsFit32 (pairs_in bytes)
unfolding pairs_in
PairsFit32-pairs_in (a ∷ b ∷ c ∷ d ∷ e ∷ f ∷ g ∷ h ∷ rest) fits =
    let first = pair_fits a b c d e f g h rest fits in
    (first.0, first.1, PairsFit32-pairs_in rest (IsBytes-drop 8 (a ∷ b ∷ c ∷ d ∷ e ∷ f ∷ g ∷ h ∷ rest) fits))
PairsFit32-pairs_in _ fits = tt
