-- White space and comments, which separate tokens and are dropped. SPARQL 1.1 Query, sections 19.3 and 19.4.
use Rattle.std.specs.Prelude.{◌≡◌, ℕ, Bool, ◌||◌, ◌==◌, ◌⊎◌, IsTrue, List, [], ◌∷◌}
use Rattle.rdf_text.specs.Classes.{is_line_end}
use Rattle.rdf_text.specs.Comments.{IsComment}
use Rattle.rdf_text.specs.Marks.{tab, space}
use Rattle.rdf_text.specs.Repetition.{Star}

-- WS ::= #x20 | #x9 | #xD | #xA
unfoldable pub is_white_space : ℕ → Bool
is_white_space c = c == space || c == tab || is_line_end c

-- one character of white space, or a comment: itself
abbrev pub IsBlank : List ℕ → List ℕ → Type 0
IsBlank text blank = (((c : ℕ) × IsTrue (is_white_space c) × (text ≡ c ∷ [])) ⊎ IsComment text) × (blank ≡ text)

-- (WS | comment)*
abbrev pub AreBlanks : List ℕ → Type 0
AreBlanks text = (blanks : List (List ℕ)) × Star IsBlank text blanks
