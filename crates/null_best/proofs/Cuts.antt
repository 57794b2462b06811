-- Rows by their cells: which variables they bind, and what they are cut to.
use Rattle.std.proofs.Common.{◌≡◌, ◌≢◌, ◌⊎◌, inl, inr, ℕ, zero, suc, add-one, ◌+◌, ◌-◌, ◌*◌, ◌^◌, ◌/◌, ◌%◌, ◌<◌, ◌≤◌, ◌==◌, min, if◌then◌else◌, List, [], ◌∷◌, length, drop, get_or, Option, Some, None, IsSome, refl, arith, sym, ◌∙◌, ap, subst, true, false}
use Rattle.std.specs.Int.{bit_at}
use Rattle.std.proofs.lemmas.List.{drop_all, length-drop}
use Rattle.std.proofs.lemmas.Nat.{pow_pos}
use Rattle.std.proofs.Math.Nat.{pow-le-pow_right, pow-succ'}
use Rattle.std.proofs.Math.Seq.{drop-cons}
use Rattle.std.proofs.lemmas.Nat.Bits.{bit_at_lowest, bit_at-suc, bit_at-zero, bit_at_and, same_from_bits}
use Rattle.std.specs.Int.Bits.{bit_and}
use Rattle.alg_model.specs.Row.{binding, Extends, BindsMore}
use Rattle.pattern_tree.specs.FlatTable.{cell_of, row_of}
use Rattle.null_best.specs.steps.Keys.{bit_of, bound_set}
use Rattle.null_best.specs.steps.Cuts.{cut_to, Improves}

-- what a row binds, by its cells
pub binding-row : (xs : List ℕ) (k : ℕ) → binding (row_of xs) k ≡ cell_of (get_or xs k 0)
binding-row [] k = refl
binding-row (x ∷ xs) zero = refl
binding-row (x ∷ xs) (suc k) = binding-row xs k

cell-some : (n value : ℕ) → cell_of n ≡ Some value → n ≡ suc value
cell-some zero value h = absurd (cc)
cell-some (suc n) value h = cc

cell-none : (n : ℕ) → cell_of n ≡ None → n ≡ 0
cell-none zero h = refl
cell-none (suc n) h = absurd (cc)

-- each cell that is bound is the same in the other row
abbrev pub Agrees : List ℕ → List ℕ → Type 0
Agrees a b = (k v : ℕ) → get_or b k 0 ≡ suc v → get_or a k 0 ≡ suc v

pub agrees_from_extends : (a b : List ℕ) → Extends (row_of a) (row_of b) → Agrees a b
agrees_from_extends a b extends k v h =
    cell-some (get_or a k 0) v (sym (binding-row a k) ∙ extends k v (binding-row b k ∙ ap cell_of h))

pub extends_from_agrees : (a b : List ℕ) → Agrees a b → Extends (row_of a) (row_of b)
extends_from_agrees a b agrees k v h =
    binding-row a k ∙ ap cell_of (agrees k v (cell-some (get_or b k 0) v (sym (binding-row b k) ∙ h)))

-- a number with its lowest bit
even_low : (m : ℕ) → (0 + 2 * m) % 2 ≡ 0
even_low m = omega arith

even_half : (m : ℕ) → (0 + 2 * m) / 2 ≡ m
even_half m = omega arith

odd_low : (m : ℕ) → (1 + 2 * m) % 2 ≡ 1
odd_low m = omega arith

odd_half : (m : ℕ) → (1 + 2 * m) / 2 ≡ m
odd_half m = omega arith

pub bound_set-bits : (xs : List ℕ) (k : ℕ) → bit_at (bound_set xs) k ≡ bit_of (get_or xs k 0)
unfolding bound_set
bound_set-bits [] k = bit_at-zero k
bound_set-bits (zero ∷ xs) zero = bit_at_lowest (bound_set (zero ∷ xs)) ∙ even_low (bound_set xs)
bound_set-bits (suc v ∷ xs) zero = bit_at_lowest (bound_set (suc v ∷ xs)) ∙ odd_low (bound_set xs)
bound_set-bits (zero ∷ xs) (suc k) = bit_at-suc (bound_set (zero ∷ xs)) k ∙ ap (λ n. bit_at n k) (even_half (bound_set xs)) ∙ bound_set-bits xs k
bound_set-bits (suc v ∷ xs) (suc k) = bit_at-suc (bound_set (suc v ∷ xs)) k ∙ ap (λ n. bit_at n k) (odd_half (bound_set xs)) ∙ bound_set-bits xs k

-- it is read from the last cell on
pub bound_set-end : (xs : List ℕ) → 0 ≡ bound_set (drop (length xs) xs)
unfolding bound_set
bound_set-end xs = ap bound_set (sym (drop_all (length xs) xs (omega arith)))

pub bound_set-step : (xs : List ℕ) (k : ℕ) → 0 < k → k ≤ length xs → bound_set (drop k xs) * 2 + bit_of (get_or xs (k - 1) 0) ≡ bound_set (drop (k - 1) xs)
unfolding bound_set
bound_set-step xs k some within =
    let next : suc (k - 1) ≡ k = omega arith in
    let cells : drop (k - 1) xs ≡ get_or xs (k - 1) 0 ∷ drop k xs = drop-cons xs (k - 1) 0 (omega arith) ∙ ap (λ j. get_or xs (k - 1) 0 ∷ drop j xs) next in
    let whole : bound_set (drop (k - 1) xs) ≡ bit_of (get_or xs (k - 1) 0) + 2 * bound_set (drop k xs) = ap bound_set cells in
    omega arith

-- and it fits a word
bit_small : (cell : ℕ) → bit_of cell ≤ 1
bit_small zero = omega arith
bit_small (suc v) = omega arith

bound_set-below : (xs : List ℕ) → bound_set xs < 2 ^ length xs
unfolding bound_set
bound_set-below [] = pow_pos 0
bound_set-below (x ∷ xs) = omega (arith, bit_small x, bound_set-below xs, pow-succ' 2 (length xs))

pub bound_set-fits : (xs : List ℕ) (k : ℕ) → length xs ≤ 64 → bound_set (drop k xs) < 2 ^ 64
bound_set-fits xs k few =
    let short : length (drop k xs) ≤ 64 = omega (arith, length-drop k xs) in
    let more : 2 ^ length (drop k xs) ≤ 2 ^ 64 = pow-le-pow_right (omega arith) short in
    omega (arith, bound_set-below (drop k xs))

-- a cut has as many cells
pub length-cut : (set : ℕ) (xs : List ℕ) → length (cut_to set xs) ≡ length xs
length-cut set [] = refl
length-cut set (x ∷ xs) = omega (arith, length-cut (set / 2) xs)

-- a row that extends another is cut to it
pub cut-extended : (a b : List ℕ) → length a ≡ length b → Agrees a b → cut_to (bound_set b) a ≡ b
unfolding bound_set
cut-extended [] [] same agrees = refl
cut-extended [] (y ∷ b) same agrees = absurd (omega arith)
cut-extended (x ∷ a) [] same agrees = absurd (omega arith)
cut-extended (x ∷ a) (zero ∷ b) same agrees =
    let rest : cut_to (bound_set b) a ≡ b = cut-extended a b (omega arith) (λ k. agrees (suc k)) in
    ap (λ low. (if low == 1 then x else 0) ∷ cut_to ((0 + 2 * bound_set b) / 2) a) (even_low (bound_set b))
    ∙ ap (λ half. 0 ∷ cut_to half a) (even_half (bound_set b)) ∙ ap (λ cells. 0 ∷ cells) rest
cut-extended (x ∷ a) (suc v ∷ b) same agrees =
    let rest : cut_to (bound_set b) a ≡ b = cut-extended a b (omega arith) (λ k. agrees (suc k)) in
    let head : x ≡ suc v = agrees 0 v refl in
    ap (λ low. (if low == 1 then x else 0) ∷ cut_to ((1 + 2 * bound_set b) / 2) a) (odd_low (bound_set b))
    ∙ ap (λ half. x ∷ cut_to half a) (odd_half (bound_set b)) ∙ ap (λ cells. x ∷ cells) rest ∙ ap (λ cell. cell ∷ b) head

-- each cell of a cut is that of the row, or unbound
cut_cell : (c : ℕ) (x : ℕ) → ((if c == 1 then x else 0) ≡ x) ⊎ ((if c == 1 then x else 0) ≡ 0)
cut_cell c x = elim (c == 1) as (λ b. ((if b then x else 0) ≡ x) ⊎ ((if b then x else 0) ≡ 0)) [ true ↦ inl refl | false ↦ inr refl ]

cut_unbound : (c : ℕ) → ◌≡◌ {A = ℕ} (if c == 1 then 0 else 0) 0
cut_unbound c = elim (c == 1) as (λ b. ◌≡◌ {A = ℕ} (if b then 0 else 0) 0) [ true ↦ refl | false ↦ refl ]

pub cut-agrees : (set : ℕ) (xs : List ℕ) → Agrees xs (cut_to set xs)
cut-agrees set [] k v h = absurd (cc)
cut-agrees set (x ∷ xs) zero v h = elim (cut_cell (set % 2) x) [ inl is ↦ sym is ∙ h | inr none ↦ absurd (cc) ]
cut-agrees set (x ∷ xs) (suc k) v h = cut-agrees (set / 2) xs k v h

-- a cut that is not the row itself leaves a cell out
pub record LeavesOut (xs ys : List ℕ) : Type 0 where
  pub var : ℕ
  pub value : ℕ
  pub bound : get_or xs var 0 ≡ suc value
  pub unbound : get_or ys var 0 ≡ 0

out-later : (x y : ℕ) (xs ys : List ℕ) → LeavesOut xs ys → LeavesOut (x ∷ xs) (y ∷ ys)
out-later x y xs ys out = record { var = suc out.var; value = out.value; bound = out.bound; unbound = out.unbound }

same_cons : (x y : ℕ) (xs ys : List ℕ) → y ≡ x → ys ≡ xs → y ∷ ys ≡ x ∷ xs
same_cons x y xs ys h t = cc

pub cut-leaves : (set : ℕ) (xs : List ℕ) → cut_to set xs ≢ xs → LeavesOut xs (cut_to set xs)
cut-leaves set [] other = absurd (other refl)
cut-leaves set (zero ∷ xs) other =
    let head = cut_unbound (set % 2) in
    out-later 0 (if set % 2 == 1 then 0 else 0) xs (cut_to (set / 2) xs) (cut-leaves (set / 2) xs (λ same. other (same_cons 0 (if set % 2 == 1 then 0 else 0) xs (cut_to (set / 2) xs) head same)))
cut-leaves set (suc v ∷ xs) other = elim (cut_cell (set % 2) (suc v)) [
  | inl is ↦ out-later (suc v) (if set % 2 == 1 then suc v else 0) xs (cut_to (set / 2) xs)
      (cut-leaves (set / 2) xs (λ same. other (same_cons (suc v) (if set % 2 == 1 then suc v else 0) xs (cut_to (set / 2) xs) is same)))
  | inr none ↦ record { var = 0; value = v; bound = refl; unbound = none }
]

-- a row improves each cut of it that is another row
pub improves-cut : (set : ℕ) (xs : List ℕ) → cut_to set xs ≢ xs → Improves xs (cut_to set xs)
improves-cut set xs other =
    let out = cut-leaves set xs other in
    record {
      extends = extends_from_agrees xs (cut_to set xs) (cut-agrees set xs);
      more = (
        out.var,
        subst IsSome (sym (binding-row xs out.var ∙ ap cell_of out.bound)) refl,
        binding-row (cut_to set xs) out.var ∙ ap cell_of out.unbound,
      );
    }

-- what is improved is the cut to its variables
pub cut-improved : (a b : List ℕ) → length a ≡ length b → Improves a b → cut_to (bound_set b) a ≡ b
cut-improved a b same improves = cut-extended a b same (agrees_from_extends a b improves.extends)

-- and these are a part of those of the row that improves it
bits_within : (x y : ℕ) → ((v : ℕ) → y ≡ suc v → x ≡ suc v) → min (bit_of y) (bit_of x) ≡ bit_of y
bits_within x zero h = omega arith
bits_within x (suc v) h = ap (λ n. min 1 (bit_of n)) (h v refl)

pub part-improved : (a b : List ℕ) → Improves a b → bit_and (bound_set b) (bound_set a) ≡ bound_set b
part-improved a b improves = same_from_bits (bit_and (bound_set b) (bound_set a)) (bound_set b) (λ k.
    bit_at_and (bound_set b) (bound_set a) k
    ∙ ap (λ n. min n (bit_at (bound_set a) k)) (bound_set-bits b k)
    ∙ ap (λ n. min (bit_of (get_or b k 0)) n) (bound_set-bits a k)
    ∙ bits_within (get_or a k 0) (get_or b k 0) (agrees_from_extends a b improves.extends k)
    ∙ sym (bound_set-bits b k))

bound_some : (n : ℕ) → IsSome (cell_of n) → bit_of n ≡ 1
bound_some zero h = absurd (cc)
bound_some (suc n) h = refl

pub other-improved : (a b : List ℕ) → Improves a b → bound_set b ≢ bound_set a
other-improved a b improves same =
    let k = improves.more.0 in
    let one : bit_at (bound_set a) k ≡ 1 = bound_set-bits a k ∙ bound_some (get_or a k 0) (subst IsSome (binding-row a k) improves.more.1) in
    let none : bit_at (bound_set b) k ≡ 0 = bound_set-bits b k ∙ ap bit_of (cell-none (get_or b k 0) (sym (binding-row b k) ∙ improves.more.2)) in
    let is : bit_at (bound_set b) k ≡ bit_at (bound_set a) k = ap (λ n. bit_at n k) same in
    absurd (omega arith)
