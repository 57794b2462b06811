-- Carries proofs only: where a text is sought among texts that ascend, between two places.
use Rattle.std.specs.Prelude.{◌≡◌, ℕ, ◌≤◌, List, [], ◌∷◌, length, drop, Contains}
use Rattle.std.specs.declared.cmp.Ordering.TheVariants.{Less}
use Rattle.term_numbers.specs.Order.{text_cmp}

-- the first of the texts, if there is one, is not before this text
abbrev pub BeginsAt : List ℕ → List (List ℕ) → Type 0
BeginsAt text [] = Unit {0}
BeginsAt text (x ∷ xs) = text_cmp x text ≡ Less → ⊥

-- the first text that is not before this one is neither before low nor after high
pub record IsBetween (text : List ℕ) (texts : List (List ℕ)) (low high : ℕ) : Type 0 where
  pub ordered : low ≤ high
  pub within : high ≤ length texts
  pub passed : Contains texts text → Contains (drop low texts) text
  pub begins : BeginsAt text (drop high texts)
