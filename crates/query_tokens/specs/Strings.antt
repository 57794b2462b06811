-- STRING_LITERAL1 and STRING_LITERAL2 of SPARQL 1.1 Query, section 19.8, with the escapes UCHAR of section 19.2. Here such
-- an escape stands for a character of the string or IRI. Section 19.2 replaces it before tokens are read: there
-- "\u005Cn" is a line feed, and here a backslash and an n.
use Rattle.std.specs.Prelude.{◌≡◌, ℕ, IsTrue, List, [], ◌∷◌}
use Rattle.rdf_escapes.specs.Strings.{is_quote, IsString}

-- the text spells this lexical form, between quotation marks or between apostrophes
pub record SpellsString (text lexical : List ℕ) : Type 0 where
  pub mark : ℕ
  pub quote : IsTrue (is_quote mark)
  pub string : IsString mark text lexical

abbrev pub IsQuoted : List ℕ → Type 0
IsQuoted text = (lexical : List ℕ) × SpellsString text lexical

-- three equal quotation marks
abbrev pub IsThreeQuotes : List ℕ → Type 0
IsThreeQuotes text = (mark : ℕ) × IsTrue (is_quote mark) × (text ≡ mark ∷ mark ∷ mark ∷ [])
