-- The signs between terms: those of the terminals in quotes that this project reads. SPARQL 1.1 Query, section 19.8.
use Rattle.std.specs.Prelude.{◌≡◌, ℕ, Bool, ◌||◌, ◌==◌, ◌⊎◌, IsTrue, List, [], ◌∷◌}
use Rattle.rdf_text.specs.Marks.{circumflex}

-- the signs of one character: { } . ; , * ^ / | + ? ! ( ) [ ]
unfoldable pub is_sign : ℕ → Bool
is_sign c =
    c == 0x7B || c == 0x7D || c == 0x2E || c == 0x3B || c == 0x2C || c == 0x2A || c == 0x5E || c == 0x2F || c == 0x7C
    || c == 0x2B || c == 0x3F || c == 0x21 || c == 0x28 || c == 0x29 || c == 0x5B || c == 0x5D

-- one of them, or '^^'
abbrev pub IsSign : List ℕ → Type 0
IsSign text = ((c : ℕ) × IsTrue (is_sign c) × (text ≡ c ∷ [])) ⊎ (text ≡ circumflex ∷ circumflex ∷ [])
