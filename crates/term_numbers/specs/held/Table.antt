-- Carries proofs only: tables of texts.
use Rattle.std.specs.Prelude.{◌≡◌, ℕ, List, All}
use Rattle.bm_term.specs.Canonical.{IsCanonical}
use Rattle.byte_tables.specs.Pieces.{joined, starts_of, pieces_at}

-- the starts and the bytes are those of the texts that they cut out
pub record IsCut (starts bytes : List ℕ) : Type 0 where
  pub starts_are : starts ≡ starts_of (pieces_at starts bytes)
  pub bytes_are : bytes ≡ joined (pieces_at starts bytes)

-- and each text is canonical
pub record IsTextTable (starts bytes : List ℕ) : Type 0 where
  pub cut : IsCut starts bytes
  pub canonical : All (λ t. ∥ IsCanonical t ∥₁) (pieces_at starts bytes)
