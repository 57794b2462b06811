-- Names with dots inside (labels of blank nodes, prefixes) and language tags.
-- N-Triples 1.1, section 7, and SPARQL 1.1 Query, section 19.8, each over its own classes of characters.
use Rattle.std.specs.Prelude.{◌≡◌, ℕ, Bool, ◌||◌, ◌==◌, ◌⊎◌, IsTrue, List, [], ◌∷◌, ◌++◌}
use Rattle.std.specs.List.{list_all}
use Rattle.rdf_text.specs.Marks.{hyphen, full_stop, colon, at_sign, low_line}
use Rattle.rdf_text.specs.Classes.{is_letter, is_alphanumeric}
use Rattle.rdf_text.specs.Text.{IsRun}
use Rattle.rdf_text.specs.Repetition.{Star}

-- inner | '.'
abbrev pub is_dotted : (ℕ → Bool) → ℕ → Bool
is_dotted inner c = inner c || c == full_stop

-- ((inner | '.')* inner)?
abbrev pub IsDottedRest : (ℕ → Bool) → List ℕ → Type 0
IsDottedRest inner text =
    (text ≡ [])
    ⊎ ((middle : List ℕ) × (last : ℕ) × IsTrue (list_all (is_dotted inner) middle) × IsTrue (inner last) × (text ≡ middle ++ last ∷ []))

-- first ((inner | '.')* inner)?
abbrev pub IsDottedName : (ℕ → Bool) → (ℕ → Bool) → List ℕ → Type 0
IsDottedName first inner name = (c : ℕ) × (rest : List ℕ) × IsTrue (first c) × IsDottedRest inner rest × (name ≡ c ∷ rest)

-- '-' alphanumeric+
abbrev pub IsSubtag : (ℕ → Bool) → List ℕ → List ℕ → Type 0
IsSubtag alphanumeric text subtag = IsRun alphanumeric subtag × (text ≡ hyphen ∷ subtag)

-- letter+ ('-' alphanumeric+)*
abbrev pub IsLanguageTag : (ℕ → Bool) → (ℕ → Bool) → List ℕ → Type 0
IsLanguageTag letter alphanumeric tag =
    (primary : List ℕ) × (rest : List ℕ) × (subtags : List (List ℕ))
    × IsRun letter primary × Star (IsSubtag alphanumeric) rest subtags × (tag ≡ primary ++ rest)

-- LANGTAG ::= '@' [a-zA-Z]+ ('-' [a-zA-Z0-9]+)*, with the tag as it is written
abbrev pub IsLangtag : List ℕ → List ℕ → Type 0
IsLangtag text tag = IsLanguageTag is_letter is_alphanumeric tag × (text ≡ at_sign ∷ tag)

-- BLANK_NODE_LABEL ::= '_:' first ((inner | '.')* inner)?, with the label
abbrev pub IsBlankNodeLabel : (ℕ → Bool) → (ℕ → Bool) → List ℕ → List ℕ → Type 0
IsBlankNodeLabel first inner text label = IsDottedName first inner label × (text ≡ low_line ∷ colon ∷ label)
