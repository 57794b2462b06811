-- The lists of the triple patterns of a scene: those at places below a number.
use Rattle.std.proofs.Common.{◌≡◌, inl, inr, ℕ, ◌<◌, List, [], Contains, refl, sym, subst, arith}
use Rattle.std.proofs.lemmas.Bool.{cases_lt}
use Rattle.bm_term.proofs.Elements.{Contains-nil}

-- lists at places below n, and none at others
pub cut : {X : Type 0} → ℕ → (ℕ → List X) → ℕ → List X
cut n lists i = elim (cases_lt i n) [ inl low ↦ lists i | inr past ↦ [] ]

pub cut-low : {X : Type 0} (n : ℕ) (lists : ℕ → List X) (i : ℕ) → i < n → cut n lists i ≡ lists i
unfolding cut
cut-low {X} n lists i low = elim (cases_lt i n) as (λ c. elim c as (λ _. List X) [ inl low ↦ lists i | inr past ↦ [] ] ≡ lists i) [
  | inl there ↦ refl
  | inr past ↦ absurd (omega arith)
]

pub cut-low_only : {X : Type 0} (n : ℕ) (lists : ℕ → List X) (i : ℕ) (t : X) → Contains (cut n lists i) t → i < n
unfolding cut
cut-low_only {X} n lists i t = elim (cases_lt i n) as (λ c. Contains (elim c as (λ _. List X) [ inl low ↦ lists i | inr past ↦ [] ]) t → i < n) [
  | inl there ↦ λ at. there
  | inr past ↦ λ at. absurd (Contains-nil t at)
]

pub cut-within : {X : Type 0} (n : ℕ) (lists : ℕ → List X) (i : ℕ) (t : X) → Contains (cut n lists i) t → (i < n) × Contains (lists i) t
cut-within n lists i t at =
    let low = cut-low_only n lists i t at in
    (low, subst (λ l. Contains l t) (cut-low n lists i low) at)

pub within-cut : {X : Type 0} (n : ℕ) (lists : ℕ → List X) (i : ℕ) (t : X) → i < n → Contains (lists i) t → Contains (cut n lists i) t
within-cut n lists i t low at = subst (λ l. Contains l t) (sym (cut-low n lists i low)) at
