-- Repetitions in a grammar: pieces in a row, each of which stands for a value.
use Rattle.std.specs.Prelude.{◌≡◌, ℕ, List, [], ◌∷◌, ◌++◌}
use Rattle.rdf_text.specs.Text.{IsOf}

-- the text is pieces of the rule P in a row, and these are their values
abbrev pub Star : {V : Type 0} → (List ℕ → V → Type 0) → List ℕ → List V → Type 0
Star P text [] = text ≡ []
Star P text (v ∷ vs) = (front : List ℕ) × (rest : List ℕ) × P front v × Star P rest vs × (text ≡ front ++ rest)

-- pieces of the rule in a row, whatever they stand for
abbrev pub ArePieces : (List ℕ → ℕ → Type 0) → List ℕ → Type 0
ArePieces R text = IsOf (Star R) text
