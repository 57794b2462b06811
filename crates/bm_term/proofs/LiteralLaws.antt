-- A literal with the IRI of a datatype.
use Rattle.std.proofs.Common.{◌≡◌, ◌≢◌, ℕ, true, false, if◌then◌else◌, bytes_eq, List, refl}
use Rattle.std.proofs.lemmas.Slice.Eq.{bytes_eq-Decides}
use Rattle.bm_term.specs.Canonical.{xsd_string, plain, typed, literal_of}

-- with the datatype xsd:string it is a plain one
pub literal_of-xsd_string : (lexical : List ℕ) → literal_of lexical xsd_string ≡ plain lexical
unfolding literal_of
literal_of-xsd_string lexical = rw ((bytes_eq-Decides xsd_string xsd_string).1 refl) refl

-- with another datatype it is a typed one
pub literal_of-other : (lexical datatype : List ℕ) → datatype ≢ xsd_string → literal_of lexical datatype ≡ typed lexical datatype
unfolding literal_of
literal_of-other lexical datatype other =
    elim (bytes_eq datatype xsd_string) as (λ b. bytes_eq datatype xsd_string ≡ b → (if b then plain lexical else typed lexical datatype) ≡ typed lexical datatype) [
      | true ↦ λ e. absurd (other ((bytes_eq-Decides datatype xsd_string).0 e))
      | false ↦ λ e. refl
    ] refl
