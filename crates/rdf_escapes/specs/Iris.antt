-- The characters of an IRI between its brackets. N-Triples 1.1, section 7, rule IRIREF; SPARQL 1.1 Query, section 19.8,
-- where an escape is read as in N-Triples.
use Rattle.std.specs.Prelude.{◌≡◌, ℕ, ◌⊎◌, IsTrue, List, [], ◌∷◌, ◌++◌}
use Rattle.rdf_text.specs.Marks.{less_than, greater_than}
use Rattle.rdf_text.specs.Classes.{is_irichar}
use Rattle.rdf_text.specs.Repetition.{Star}
use Rattle.rdf_escapes.specs.Escapes.{IsUchar}

-- IRICHAR | UCHAR: the text stands for the character, which in both cases is a member of IRICHAR
abbrev pub IsIriPiece : List ℕ → ℕ → Type 0
IsIriPiece text c = IsTrue (is_irichar c) × ((text ≡ c ∷ []) ⊎ IsUchar text c)

-- IRIREF ::= '<' (IRICHAR | UCHAR)* '>', with the characters of the IRI
abbrev pub IsIriRef : List ℕ → List ℕ → Type 0
IsIriRef text iri = (body : List ℕ) × Star IsIriPiece body iri × (text ≡ less_than ∷ (body ++ greater_than ∷ []))
