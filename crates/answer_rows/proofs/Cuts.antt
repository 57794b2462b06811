-- Rows that lie in one list, cell after cell.
use Rattle.std.proofs.Common.{◌≡◌, ℕ, zero, suc, add-one, sub-one, ◌+◌, ◌*◌, ◌-◌, ◌<◌, ◌≤◌, ◌^◌, List, [], ◌∷◌, ◌++◌, length, take, drop, refl, arith, sym, ◌∙◌, ap, subst, append_assoc, length-append, length-drop, slice_get, slice_index_or, slice_set, Option, Some, None, replicate}
use Rattle.std.proofs.lemmas.List.{length-replicate, length-set, length-take-le, take_all, take-append-le, take_at, drop-append-le, drop-drop, take-set-le, drop-set-add, drop-set-lt}
use lib.Seq.{take-set-lt}
use native.Mathlib.Nat.{zero-mul, suc-mul, mul-le-mul_right}
use Rattle.answer_rows.specs.held.Flat.{in_rows}
use Rattle.answer_rows.specs.TextTable.{bound_last}

nothing_left : {X : Type 0} (xs : List X) → length xs ≡ 0 → xs ≡ []
nothing_left [] h = refl
nothing_left (x ∷ xs) h = absurd (omega arith)

next_start : (n w : ℕ) → suc n * w ≡ w + n * w
next_start n w = omega (arith, suc-mul n w)

-- there are as many rows as there are to be
pub length-in_rows : {X : Type 0} (w n : ℕ) (cells : List X) → length (in_rows w n cells) ≡ n
length-in_rows w zero cells = refl
length-in_rows w (suc n) cells = omega (arith, length-in_rows w n (drop w cells))

-- without its first row
rest_long : {X : Type 0} (w n : ℕ) (cells : List X) → length cells ≡ suc n * w → length (drop w cells) ≡ n * w
rest_long w n cells h = omega (arith, length-drop w cells, next_start n w)

-- one row more at the end
in_rows-push : {X : Type 0} (w n : ℕ) (cells row : List X) → length cells ≡ n * w → length row ≡ w → in_rows w (suc n) (cells ++ row) ≡ in_rows w n cells ++ row ∷ []
in_rows-push w zero cells row h k =
    let empty : cells ≡ [] = nothing_left cells (h ∙ zero-mul w) in
    let first : take w (cells ++ row) ≡ row = ap (λ ys. take w (ys ++ row)) empty ∙ take_all w row (omega (arith, k)) in
    ap (λ r. r ∷ []) first
in_rows-push w (suc n) cells row h k =
    let wide : w ≤ length cells = omega (arith, next_start n w) in
    let first : take w (cells ++ row) ≡ take w cells = take-append-le w cells row wide in
    let others : drop w (cells ++ row) ≡ drop w cells ++ row = drop-append-le w cells row wide in
    ap (λ r. r ∷ in_rows w (suc n) (drop w (cells ++ row))) first
    ∙ ap (λ r. take w cells ∷ in_rows w (suc n) r) others
    ∙ ap (λ rows. take w cells ∷ rows) (in_rows-push w n (drop w cells) row (rest_long w n cells h) k)

pub in_rows-append : {X : Type 0} (w n : ℕ) (cells row : List X) → length cells ≡ n * w → length row ≡ w → in_rows w (n + 1) (cells ++ row) ≡ in_rows w n cells ++ row ∷ []
in_rows-append w n cells row h k = rw add-one (in_rows-push w n cells row h k)

-- where a row stands
row_starts : {X : Type 0} (w i : ℕ) (cells : List X) → drop (i * w) (drop w cells) ≡ drop (suc i * w) cells
row_starts w i cells = drop-drop (i * w) w cells ∙ ap (λ k. drop k cells) (sym (next_start i w))

pub in_rows-at : {X : Type 0} (w n i : ℕ) (cells : List X) (d : List X) → i < n → slice_index_or (in_rows w n cells) i d ≡ take w (drop (i * w) cells)
in_rows-at w zero i cells d h = absurd (omega arith)
in_rows-at w (suc n) zero cells d h = ap (λ k. take w (drop k cells)) (sym (zero-mul w))
in_rows-at w (suc n) (suc i) cells d h = in_rows-at w n i (drop w cells) d (omega arith) ∙ ap (take w) (row_starts w i cells)

-- a row lies within the cells
pub row_within : (w n i l : ℕ) → i < n → l ≡ n * w → i * w + w ≤ l
row_within w n i l h e =
    let more : suc i * w ≤ n * w = mul-le-mul_right w (omega arith) in
    omega (arith, next_start i w)

-- a cell that is set
in_rows-set : {X : Type 0} (w n i c : ℕ) (cells : List X) (x : X) → i < n → c < w → in_rows w n (slice_set cells (i * w + c) x) ≡ slice_set (in_rows w n cells) i (slice_set (take w (drop (i * w) cells)) c x)
in_rows-set w zero i c cells x h k = absurd (omega arith)
in_rows-set w (suc n) zero c cells x h k =
    let place : zero * w + c ≡ c = omega (arith, zero-mul w) in
    let first : take w (slice_set cells c x) ≡ slice_set (take w cells) c x = take-set-lt w cells c x k in
    let others : drop w (slice_set cells c x) ≡ drop w cells = drop-set-lt w cells c x k in
    ap (λ p. in_rows w (suc n) (slice_set cells p x)) place
    ∙ ap (λ r. r ∷ in_rows w n (drop w (slice_set cells c x))) first
    ∙ ap (λ r. slice_set (take w cells) c x ∷ in_rows w n r) others
    ∙ ap (λ s. slice_set (take w (drop s cells)) c x ∷ in_rows w n (drop w cells)) (sym (zero-mul w))
in_rows-set w (suc n) (suc i) c cells x h k =
    let place : suc i * w + c ≡ w + (i * w + c) = omega (arith, next_start i w) in
    let first : take w (slice_set cells (w + (i * w + c)) x) ≡ take w cells = take-set-le w cells (w + (i * w + c)) x (omega arith) in
    let others : drop w (slice_set cells (w + (i * w + c)) x) ≡ slice_set (drop w cells) (i * w + c) x = drop-set-add w cells (i * w + c) x in
    ap (λ p. in_rows w (suc n) (slice_set cells p x)) place
    ∙ ap (λ r. r ∷ in_rows w n (drop w (slice_set cells (w + (i * w + c)) x))) first
    ∙ ap (λ r. take w cells ∷ in_rows w n r) others
    ∙ ap (λ rows. take w cells ∷ rows) (in_rows-set w n i c (drop w cells) x (omega arith) k)
    ∙ ap (λ r. take w cells ∷ slice_set (in_rows w n (drop w cells)) i (slice_set (take w r) c x)) (row_starts w i cells)

-- a cell of the last row
pub in_rows-bound : (w n c : ℕ) (cells : List (Option (List ℕ))) (text : List ℕ) → 0 < n → c < w → in_rows w n (slice_set cells ((n - 1) * w + c) (Some text)) ≡ bound_last c text (in_rows w n cells)
in_rows-bound w n c cells text h k =
    let last : length (in_rows w n cells) - 1 ≡ n - 1 = omega (arith, length-in_rows w n cells) in
    let there = in_rows-at w n (n - 1) cells [] (omega arith) in
    in_rows-set w n (n - 1) c cells (Some text) (omega arith) k
    ∙ ap (λ row. slice_set (in_rows w n cells) (n - 1) (slice_set row c (Some text))) (sym there)
    ∙ ap (λ i. slice_set (in_rows w n cells) i (slice_set (slice_index_or (in_rows w n cells) i []) c (Some text))) (sym last)

pub ruleset cuts = (length-in_rows, in_rows-append, in_rows-at, row_within, in_rows-bound, length-replicate, length-append, length-set)
