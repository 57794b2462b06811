-- The term that a canonical text spells, read from the text. A law of this crate says that the text of each term is read
-- as that term; nothing is said of other texts.
use Rattle.std.specs.Prelude.{ℕ, ◌==◌, ◌&&◌, not, if◌then◌else◌, List, [], ◌∷◌, drop}
use Rattle.std.specs.List.{list_any}
use Rattle.std.specs.Str.{chars}
use Rattle.rdf_text.specs.Marks.{quotation_mark, less_than, greater_than, at_sign}
use Rattle.rdf_text.specs.Spelling.{unescaped}
use Rattle.bm_term.specs.Canonical.{RdfTerm, iri, blank, plain, tagged, typed}

-- what stands before the last such mark, and after it
abbrev pub cut_at_last : ℕ → List ℕ → List ℕ × List ℕ
cut_at_last mark [] = ([], [])
cut_at_last mark (c ∷ cs) =
    if c == mark && not (list_any (λ d. d == mark) cs) then ([], cs)
    else (c ∷ (cut_at_last mark cs).0, (cut_at_last mark cs).1)

-- what is between < and >, from what follows <
abbrev pub in_brackets : List ℕ → List ℕ
in_brackets text = (cut_at_last greater_than text).0

-- a literal, by the spelled lexical form and what follows it: nothing, @tag or ^^<datatype>
abbrev pub literal_with : List ℕ → List ℕ → RdfTerm
literal_with body [] = plain (unescaped body)
literal_with body (mark ∷ rest) =
    if mark == at_sign then tagged (unescaped body) rest else typed (unescaped body) (in_brackets (drop 2 rest))

-- by the characters of the text: <iri>, "literal" or _:label
abbrev pub term_of_chars : List ℕ → RdfTerm
term_of_chars [] = blank []
term_of_chars (mark ∷ rest) =
    if mark == less_than then iri (in_brackets rest)
    else (if mark == quotation_mark then literal_with (cut_at_last quotation_mark rest).0 (cut_at_last quotation_mark rest).1
    else blank (drop 1 rest))

unfoldable pub term_with_text : List ℕ → RdfTerm
term_with_text text = term_of_chars (chars text)
