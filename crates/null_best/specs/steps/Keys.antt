-- Carries proofs only: the set of variables that a row binds, as a word, and the order of rows.
use Rattle.std.specs.Prelude.{◌≡◌, ℕ, zero, suc, ◌+◌, ◌*◌, ◌^◌, ◌<◌, ◌==◌, List, [], ◌∷◌, refl, slice_index}
use Rattle.std.specs.declared.cmp.Ordering.{Ordering}
use Rattle.std.specs.declared.cmp.Ordering.TheVariants.{Less, Equal, Greater}
use Rattle.std.specs.Cmp.{IsTotalOrder, nat_cmp_total, on_total, then_total, tied_itself}
use Rattle.std.specs.Cmp.Lexicographic.{pointwise, slice_cmp, lists_total, texts_ties}
use Rattle.std.specs.Ordering.{nat_cmp, ordering_then, eq_by_cmp, is_eq}
use Rattle.std.proofs.Common.{ap, subst, sym, ◌∙◌}
use Rattle.std.proofs.lemmas.Map.Lookups.{exact_bytes}

-- whether a cell is bound, as a bit
abbrev pub bit_of : ℕ → ℕ
bit_of zero = 0
bit_of (suc value) = 1

-- bit k is that of cell k
unfoldable pub bound_set : List ℕ → ℕ
bound_set [] = 0
bound_set (cell ∷ cells) = bit_of cell + 2 * bound_set cells

-- the first two cells as a word
unfoldable pub head_of : List ℕ → ℕ
head_of cells = slice_index cells 0 * 2 ^ 32 + slice_index cells 1

-- each cell fits in 32 bits
abbrev pub AreWords : List ℕ → Type 0
AreWords cells = (k : ℕ) → slice_index cells k < 2 ^ 32

-- what stands beside the cells of a row
pub record IsKey (vars head : ℕ) (cells : List ℕ) : Type 0 where
  pub vars_are : vars ≡ bound_set cells
  pub head_is : head ≡ head_of cells
  pub words : AreWords cells

-- rows with the lesser set come first, and of the same set those with the lesser cells
abbrev pub key_cmp : List ℕ → List ℕ → Ordering
key_cmp a b = ordering_then (nat_cmp (bound_set a) (bound_set b)) (slice_cmp nat_cmp a b)

pub key_cmp-total : IsTotalOrder key_cmp
key_cmp-total = then_total (on_total bound_set nat_cmp_total) (lists_total nat_cmp_total)

second_tells : (n s : Ordering) → (s ≡ Equal → n ≡ Equal) → is_eq s ≡ is_eq (ordering_then n s)
second_tells n Equal h = sym (ap (λ r. is_eq (ordering_then r Equal)) (h refl))
second_tells Less Less h = refl
second_tells Equal Less h = refl
second_tells Greater Less h = refl
second_tells Less Greater h = refl
second_tells Equal Greater h = refl
second_tells Greater Greater h = refl

-- two rows are the same exactly where they compare as equal
pub keys_tie : (a b : List ℕ) → pointwise ◌==◌ a b ≡ eq_by_cmp key_cmp a b
keys_tie a b =
    let same_set : slice_cmp nat_cmp a b ≡ Equal → nat_cmp (bound_set a) (bound_set b) ≡ Equal = λ e.
    subst (λ c. nat_cmp (bound_set a) (bound_set c) ≡ Equal) (exact_bytes a b e) (tied_itself nat_cmp_total (bound_set a)) in
    texts_ties a b ∙ second_tells (nat_cmp (bound_set a) (bound_set b)) (slice_cmp nat_cmp a b) same_set
