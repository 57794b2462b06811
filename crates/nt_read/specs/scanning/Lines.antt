-- Carries proofs only: the lines of bytes, one by one from the front, the first bad one, and the triples that they spell. That
-- these are the lines, the line and the triples is said by the laws of file_laws.
use Rattle.std.specs.Prelude.{ℕ, ◌+◌, Bool, true, false, ◌==◌, if◌then◌else◌, Option, Some, None, List, [], ◌∷◌}
use Rattle.std.specs.List.{flat_map, before_first}
use Rattle.bm_term.specs.declared.triple.Triple.{Triple}
use Rattle.rdf_text.specs.Marks.{line_feed, carriage_return}
use Rattle.nt_read.specs.scanning.Line.{ScannedLine, bad, nothing, spelled, scan_line}

-- a byte before the first line
abbrev pub before_first_line : ℕ → List (List ℕ) → List (List ℕ)
before_first_line b [] = (b ∷ []) ∷ []
before_first_line b (line ∷ lines) = (b ∷ line) ∷ lines

-- The lines of bytes with a CR before them, or with none: an LF right after a CR belongs to the line end before it.
-- The last line follows the last line end, and may be empty.
abbrev pub lines_after : Bool → List ℕ → List (List ℕ)
lines_after after_cr [] = [] ∷ []
lines_after after_cr (b ∷ bytes) =
    if b == line_feed then (if after_cr then lines_after false bytes else [] ∷ lines_after false bytes)
    else (if b == carriage_return then [] ∷ lines_after true bytes
    else before_first_line b (lines_after false bytes))

-- the lines of a file
unfoldable pub lines_of : List ℕ → List (List ℕ)
lines_of bytes = lines_after false bytes

-- what is found in a line is bad
abbrev pub is_bad : ScannedLine → Bool
is_bad bad = true
is_bad nothing = false
is_bad (spelled triple) = false

-- the triple that it spells, if it spells one
abbrev pub triples_in : ScannedLine → List Triple
triples_in bad = []
triples_in nothing = []
triples_in (spelled triple) = triple ∷ []

-- the number of the first line that is read as bad, where the first of these has the number n
abbrev pub first_bad_from : ℕ → List (List ℕ) → Option ℕ
first_bad_from n [] = None
first_bad_from n (line ∷ lines) = if is_bad (scan_line line) then Some n else first_bad_from (n + 1) lines

-- the number of the first bad line of a file, counted from 1, if there is one
unfoldable pub first_bad : List ℕ → Option ℕ
first_bad bytes = first_bad_from 1 (lines_of bytes)

-- the lines before the first bad one, or all where none is bad
abbrev pub before_first_bad : List (List ℕ) → List (List ℕ)
before_first_bad lines = before_first (λ line. is_bad (scan_line line)) lines

-- the triples that lines spell, in their order
abbrev pub triples_of : List (List ℕ) → List Triple
triples_of lines = flat_map (λ line. triples_in (scan_line line)) lines
