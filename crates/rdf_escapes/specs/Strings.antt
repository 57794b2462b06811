-- The characters of a string between its marks. N-Triples 1.1, section 7, rule STRING_LITERAL_QUOTE, with the mark '"';
-- SPARQL 1.1 Query, section 19.8, rules STRING_LITERAL1 and STRING_LITERAL2, with the marks "'" and '"'. Here an escape by
-- a number stands for a character of the string, as one in an IRI does for one of the IRI. Section 19.2 of SPARQL replaces
-- such escapes before tokens are read: there "\u005Cn" is a line feed, and here a backslash and an n.
use Rattle.std.specs.Prelude.{◌≡◌, ℕ, Bool, ◌&&◌, ◌||◌, ◌==◌, not, ◌⊎◌, IsTrue, List, [], ◌∷◌, ◌++◌}
use Rattle.rdf_text.specs.Marks.{line_feed, carriage_return, quotation_mark, apostrophe, backslash}
use Rattle.rdf_text.specs.Classes.{is_scalar}
use Rattle.rdf_text.specs.Repetition.{Star}
use Rattle.rdf_escapes.specs.Escapes.{IsEchar, IsUchar}

-- '"' | "'"
abbrev pub is_quote : ℕ → Bool
is_quote c = c == quotation_mark || c == apostrophe

-- every character but the mark, the backslash, LF and CR
unfoldable pub is_string_char : ℕ → ℕ → Bool
is_string_char mark c = is_scalar c && not (c == mark || c == backslash || c == line_feed || c == carriage_return)

-- such a character | ECHAR | UCHAR: the text stands for the character
abbrev pub IsStringPiece : ℕ → List ℕ → ℕ → Type 0
IsStringPiece mark text c = (IsTrue (is_string_char mark c) × (text ≡ c ∷ [])) ⊎ (IsEchar text c ⊎ IsUchar text c)

-- the mark, such pieces, and the mark again, with the lexical form
abbrev pub IsString : ℕ → List ℕ → List ℕ → Type 0
IsString mark text lexical =
    (body : List ℕ) × Star (IsStringPiece mark) body lexical × (text ≡ mark ∷ (body ++ mark ∷ []))
