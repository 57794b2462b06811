-- Laws of numbers in bytes: the bytes and the numbers determine each other.
use Rattle.std.proofs.Common.{◌≡◌, ℕ, zero, suc, ◌+◌, ◌*◌, ◌^◌, ◌<◌, ◌≤◌, List, [], ◌∷◌, ◌++◌, length, take, drop, refl, sym, ap, ◌∙◌, inl, inr, arith}
use Rattle.std.proofs.lemmas.Bool.{cases_lt}
use Rattle.std.proofs.lemmas.Nat.{le_bytes_4, from_le_bytes-to_le_bytes_4}
use Rattle.std.proofs.lemmas.List.{length-take, get_or-take, get_or-drop, get_or_past, drop-drop}
use Rattle.std.specs.Int.{w32, to_le_bytes, from_le_bytes}
use Rattle.byte_tables.specs.Numbers.{number_bytes, numbers_in, AllFit32, IsBytes}

-- ---- bytes

pub IsBytes-take : (n : ℕ) (bytes : List ℕ) → IsBytes bytes → IsBytes (take n bytes)
IsBytes-take n bytes fits i =
    elim (cases_lt i n) [
      | inl within ↦ rw (get_or-take n bytes i 0 within) (fits i)
      | inr past ↦ rw (get_or_past (take n bytes) i 0 (omega (arith, length-take n bytes))) (omega arith)
    ]

pub IsBytes-drop : (n : ℕ) (bytes : List ℕ) → IsBytes bytes → IsBytes (drop n bytes)
IsBytes-drop n bytes fits i = rw get_or-drop (fits (n + i))

-- ---- one number

-- the first four bytes are those of the number that they spell
pub number_read : (bytes : List ℕ) (n : ℕ) → 4 ≤ length bytes → IsBytes bytes → n ≡ from_le_bytes w32 bytes → bytes ≡ to_le_bytes w32 n ++ drop 4 bytes
number_read (a ∷ b ∷ c ∷ d ∷ rest) n size fits n-is =
    let bytes = a ∷ b ∷ c ∷ d ∷ rest in
    let front = le_bytes_4 (take 4 bytes) n refl (IsBytes-take 4 bytes fits) n-is in
    sym (ap (λ (p : List ℕ). p ++ rest) front)
number_read _ n size fits n-is = absurd (omega arith)

-- the bytes of a number, in front of others, are that number
pub numbers_in-number : (n : ℕ) (rest : List ℕ) → n < 2 ^ 32 → numbers_in (to_le_bytes w32 n ++ rest) ≡ n ∷ numbers_in rest
unfolding numbers_in
numbers_in-number n rest fits = rw (from_le_bytes-to_le_bytes_4 n fits) refl

-- fewer than four bytes are no number
pub numbers_in_short : (bytes : List ℕ) → length bytes < 4 → numbers_in bytes ≡ []
unfolding numbers_in
numbers_in_short (a ∷ b ∷ c ∷ d ∷ rest) short = absurd (omega arith)
numbers_in_short _ short = refl

-- four bytes less are a number less
numbers_in-drop_4 : (bytes : List ℕ) → numbers_in (drop 4 bytes) ≡ drop 1 (numbers_in bytes)
unfolding numbers_in
numbers_in-drop_4 (a ∷ b ∷ c ∷ d ∷ rest) = refl
numbers_in-drop_4 _ = refl

-- the numbers from place i on stand in the bytes from 4 * i on
pub numbers_in-drop : (i : ℕ) (bytes : List ℕ) → numbers_in (drop (4 * i) bytes) ≡ drop i (numbers_in bytes)
numbers_in-drop zero bytes = refl
numbers_in-drop (suc i) bytes =
    let four : 4 * suc i ≡ 4 + 4 * i = omega arith in
    let one : 1 + i ≡ suc i = omega arith in
    rw four (rw (← drop-drop (4 * i) 4 bytes) (numbers_in-drop i (drop 4 bytes) ∙ ap (drop i) (numbers_in-drop_4 bytes) ∙ drop-drop i 1 (numbers_in bytes) ∙ ap (λ (n : ℕ). drop n (numbers_in bytes)) one))

-- the number that the bytes from 4 * i on begin with stands in place i
pub number_in_place : (i n : ℕ) (bytes : List ℕ) → numbers_in (drop (4 * i) bytes) ≡ n ∷ numbers_in (drop 4 (drop (4 * i) bytes)) → drop i (numbers_in bytes) ≡ n ∷ drop (i + 1) (numbers_in bytes)
number_in_place i n bytes begins =
    let behind = numbers_in-drop_4 (drop (4 * i) bytes) ∙ ap (drop 1) (numbers_in-drop i bytes) ∙ drop-drop 1 i (numbers_in bytes) in
    sym (numbers_in-drop i bytes) ∙ begins ∙ ap (λ (ns : List ℕ). n ∷ ns) behind

-- each number has its four bytes
pub length-numbers_in-le : (bytes : List ℕ) → 4 * length (numbers_in bytes) ≤ length bytes
unfolding numbers_in
length-numbers_in-le (a ∷ b ∷ c ∷ d ∷ rest) = omega (arith, length-numbers_in-le rest)
length-numbers_in-le _ = omega arith

-- ---- all numbers

-- what was written is read again
pub numbers_in-number_bytes : (xs : List ℕ) → AllFit32 xs → numbers_in (number_bytes xs) ≡ xs
unfolding number_bytes
numbers_in-number_bytes [] fits = numbers_in_short [] (omega arith)
numbers_in-number_bytes (x ∷ xs) fits =
    numbers_in-number x (number_bytes xs) fits.0 ∙ ap (λ (ns : List ℕ). x ∷ ns) (numbers_in-number_bytes xs fits.1)

-- a number takes four bytes
pub length-number_bytes : (xs : List ℕ) → length (number_bytes xs) ≡ 4 * length xs
unfolding number_bytes
length-number_bytes [] = refl
length-number_bytes (x ∷ xs) = omega (arith, length-number_bytes xs)

-- n whole numbers: they spell the bytes, they are n, and each fits
pub record ReadWhole (n : ℕ) (bytes : List ℕ) : Type 0 where
  pub written : number_bytes (numbers_in bytes) ≡ bytes
  pub counted : length (numbers_in bytes) ≡ n
  pub fit : AllFit32 (numbers_in bytes)

first_fits : (a b c d : ℕ) (rest : List ℕ) → IsBytes (a ∷ b ∷ c ∷ d ∷ rest) → from_le_bytes w32 (a ∷ b ∷ c ∷ d ∷ []) < 2 ^ 32
first_fits a b c d rest fits = omega (arith, fits 0, fits 1, fits 2, fits 3)

-- so many bytes are whole numbers
pub ReadWhole-bytes : (n : ℕ) (bytes : List ℕ) → IsBytes bytes → length bytes ≡ 4 * n → ReadWhole n bytes
unfolding number_bytes numbers_in
ReadWhole-bytes zero [] fits size = record { written = refl; counted = refl; fit = tt }
ReadWhole-bytes zero (b ∷ bytes) fits size = absurd (omega arith)
ReadWhole-bytes (suc n) (a ∷ b ∷ c ∷ d ∷ rest) fits size =
    let behind = ReadWhole-bytes n rest (IsBytes-drop 4 (a ∷ b ∷ c ∷ d ∷ rest) fits) (omega arith) in
    let first = from_le_bytes w32 (a ∷ b ∷ c ∷ d ∷ []) in
    let front : to_le_bytes w32 first ≡ a ∷ b ∷ c ∷ d ∷ [] = le_bytes_4 (a ∷ b ∷ c ∷ d ∷ []) first refl (IsBytes-take 4 (a ∷ b ∷ c ∷ d ∷ rest) fits) refl in
    record {
      written = ap (λ (p : List ℕ). p ++ number_bytes (numbers_in rest)) front ∙ ap (λ (p : List ℕ). a ∷ b ∷ c ∷ d ∷ p) behind.written;
      counted = ap suc behind.counted;
      fit = (first_fits a b c d rest fits, behind.fit);
    }
ReadWhole-bytes (suc n) _ fits size = absurd (omega arith)
