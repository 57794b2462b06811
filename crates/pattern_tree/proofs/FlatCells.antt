-- Rows that lie in one list, cell after cell, and the values of cells.
use Rattle.std.proofs.Common.{◌≡◌, ℕ, zero, suc, add-one, ◌+◌, ◌*◌, ◌<◌, ◌≤◌, List, [], ◌∷◌, ◌++◌, length, map, take, drop, refl, arith, sym, ◌∙◌, ap, length-append, length-drop, slice_get, slice_index_or, get_or, Option, Some, None}
use Rattle.std.proofs.lemmas.List.{take_all, take-append-le, drop-append-le, drop-drop, map-append, length-map, get_or-map}
use native.Mathlib.Nat.{zero-mul, suc-mul, mul-le-mul_right}
use Rattle.std.specs.Simd.{first_chunks}
use Rattle.pattern_tree.specs.FlatTable.{row_of}

nothing_left : {X : Type 0} (xs : List X) → length xs ≡ 0 → xs ≡ []
nothing_left [] h = refl
nothing_left (x ∷ xs) h = absurd (omega arith)

next_start : (n w : ℕ) → suc n * w ≡ w + n * w
next_start n w = omega (arith, suc-mul n w)

-- there are as many rows as there are to be
pub length-first_chunks : {X : Type 0} (w n : ℕ) (cells : List X) → length (first_chunks w n cells) ≡ n
length-first_chunks w zero cells = refl
length-first_chunks w (suc n) cells = omega (arith, length-first_chunks w n (drop w cells))

pub length-rows : (w n : ℕ) (cells : List ℕ) → length (map row_of (first_chunks w n cells)) ≡ n
length-rows w n cells = length-map (first_chunks w n cells) row_of ∙ length-first_chunks w n cells

-- without its first row
rest_long : {X : Type 0} (w n : ℕ) (cells : List X) → length cells ≡ suc n * w → length (drop w cells) ≡ n * w
rest_long w n cells h = omega (arith, length-drop w cells, next_start n w)

-- one row more at the end
first_chunks-push : {X : Type 0} (w n : ℕ) (cells row : List X) → length cells ≡ n * w → length row ≡ w → first_chunks w (suc n) (cells ++ row) ≡ first_chunks w n cells ++ row ∷ []
first_chunks-push w zero cells row h k =
    let empty : cells ≡ [] = nothing_left cells (h ∙ zero-mul w) in
    let first : take w (cells ++ row) ≡ row = ap (λ ys. take w (ys ++ row)) empty ∙ take_all w row (omega (arith, k)) in
    ap (λ r. r ∷ []) first
first_chunks-push w (suc n) cells row h k =
    let wide : w ≤ length cells = omega (arith, next_start n w) in
    let first : take w (cells ++ row) ≡ take w cells = take-append-le w cells row wide in
    let others : drop w (cells ++ row) ≡ drop w cells ++ row = drop-append-le w cells row wide in
    ap (λ r. r ∷ first_chunks w (suc n) (drop w (cells ++ row))) first
    ∙ ap (λ r. take w cells ∷ first_chunks w (suc n) r) others
    ∙ ap (λ rows. take w cells ∷ rows) (first_chunks-push w n (drop w cells) row (rest_long w n cells h) k)

pub rows-push : (w n : ℕ) (cells row : List ℕ) → length cells ≡ n * w → length row ≡ w → map row_of (first_chunks w (n + 1) (cells ++ row)) ≡ map row_of (first_chunks w n cells) ++ row_of row ∷ []
rows-push w n cells row h k = rw add-one (ap (map row_of) (first_chunks-push w n cells row h k) ∙ map-append row_of (first_chunks w n cells) (row ∷ []))

-- where a row stands
row_starts : {X : Type 0} (w i : ℕ) (cells : List X) → drop (i * w) (drop w cells) ≡ drop (suc i * w) cells
row_starts w i cells = drop-drop (i * w) w cells ∙ ap (λ k. drop k cells) (sym (next_start i w))

pub first_chunks-at : {X : Type 0} (w n i : ℕ) (cells : List X) (d : List X) → i < n → slice_index_or (first_chunks w n cells) i d ≡ take w (drop (i * w) cells)
first_chunks-at w zero i cells d h = absurd (omega arith)
first_chunks-at w (suc n) zero cells d h = ap (λ k. take w (drop k cells)) (sym (zero-mul w))
first_chunks-at w (suc n) (suc i) cells d h = first_chunks-at w n i (drop w cells) d (omega arith) ∙ ap (take w) (row_starts w i cells)

-- a row lies within the cells
pub row_within : (w n i l : ℕ) → i < n → l ≡ n * w → i * w + w ≤ l
row_within w n i l h e =
    let more : suc i * w ≤ n * w = mul-le-mul_right w (omega arith) in
    omega (arith, next_start i w)

pub ruleset flat_cells = (length-first_chunks, length-rows, rows-push, first_chunks-at, row_within, length-append)
