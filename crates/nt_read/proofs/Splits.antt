-- The first line of some bytes, and those that are left.
use Rattle.std.proofs.Common.{◌≡◌, inl, inr, ℕ, zero, suc, ◌<◌, ◌≤◌, true, false, ◌==◌, ◌||◌, if◌then◌else◌, List, [], ◌∷◌, length, take, drop, get_or, refl, sym, ap, arith}
use Rattle.std.proofs.lemmas.Bool.Decides.{eqb_tells}
use Rattle.memchr.specs.Find.{is_byte2}
use Rattle.nt_read.specs.scanning.Lines.{before_first_line, lines_after}
use Rattle.nt_read.specs.Pieces.{without_lf}

-- the lines from a byte on that is no LF
abbrev pub from_other : ℕ → List ℕ → List (List ℕ)
from_other b bytes = if b == 13 then [] ∷ lines_after true bytes else before_first_line b (lines_after false bytes)

-- a byte that ends no line
pub plain : (b : ℕ) (bytes : List ℕ) → (is_byte2 10 13 b ≡ true → ⊥) → lines_after false (b ∷ bytes) ≡ before_first_line b (lines_after false bytes)
plain b bytes h =
    elim (b == 10) as (λ lf. ((lf || b == 13) ≡ true → ⊥) → (if lf then [] ∷ lines_after false bytes else (if b == 13 then [] ∷ lines_after true bytes else before_first_line b (lines_after false bytes))) ≡ before_first_line b (lines_after false bytes)) [
      | true ↦ λ h. absurd (h refl)
      | false ↦ λ h. elim (b == 13) as (λ cr. ((false || cr) ≡ true → ⊥) → (if cr then [] ∷ lines_after true bytes else before_first_line b (lines_after false bytes)) ≡ before_first_line b (lines_after false bytes)) [
        | true ↦ λ h. absurd (h refl)
        | false ↦ λ _. refl
      ] h
    ] h

-- the bytes before the first line end are the first line
pub first_line : (bytes : List ℕ) (at : ℕ) (rest : List (List ℕ)) → ((k : ℕ) → k < at → is_byte2 10 13 (get_or bytes k 0) ≡ true → ⊥) → at ≤ length bytes → lines_after false (drop at bytes) ≡ [] ∷ rest → lines_after false bytes ≡ take at bytes ∷ rest
first_line bytes zero rest none within e = e
first_line [] (suc at) rest none within e = absurd (omega arith)
first_line (b ∷ bytes) (suc at) rest none within e =
    let later = first_line bytes at rest (λ k h. none (suc k) (omega arith)) (omega arith) e in
    rw (plain b bytes (none 0 (omega arith)), later) refl

-- where there is no line end, there is one line
pub one_line : (bytes : List ℕ) → ((k : ℕ) → k < length bytes → is_byte2 10 13 (get_or bytes k 0) ≡ true → ⊥) → lines_after false bytes ≡ bytes ∷ []
one_line [] none = refl
one_line (b ∷ bytes) none =
    let later = one_line bytes (λ k h. none (suc k) (omega arith)) in
    rw (plain b bytes (none 0 (omega arith)), later) refl

-- after a CR the lines are those of the bytes without the LF that belongs to it
pub after_cr : (bytes : List ℕ) → lines_after true bytes ≡ lines_after false (without_lf true bytes)
after_cr [] = refl
after_cr (b ∷ bytes) =
    elim (b == 10) as (λ lf. (b == 10) ≡ lf → (if lf then lines_after false bytes else from_other b bytes) ≡ lines_after false (if lf then bytes else b ∷ bytes)) [
      | true ↦ λ _. refl
      | false ↦ λ other. sym (rw other refl)
    ] refl

-- after a line end
pub after_end : (b : ℕ) (bytes : List ℕ) → is_byte2 10 13 b ≡ true → lines_after false (b ∷ bytes) ≡ [] ∷ lines_after false (without_lf (b == 13) bytes)
after_end b bytes ends =
    elim (eqb_tells b 13) [
      | inl cr ↦ rw cr.1 (ap (λ lines. [] ∷ lines) (after_cr bytes))
      | inr other ↦ elim (eqb_tells b 10) [
        | inl lf ↦ rw lf.1 refl
        | inr neither ↦ let lost : is_byte2 10 13 b ≡ false = rw (neither.0, other.0) refl in absurd (cc)
      ]
    ]
