-- Carries proofs only: how a line is read from its front. The laws that tie this to the grammar are in proofs/.
use Rattle.std.specs.Prelude.{◌≡◌, ℕ, Bool, true, ◌&&◌, ◌==◌, if◌then◌else◌, Option, Some, None, Result, Ok, Err, List, [], ◌∷◌, length}
use Rattle.std.specs.Option.{option_map, option_or}
use Rattle.std.specs.Str.{chars, is_utf8}
use Rattle.bm_term.specs.declared.triple.Triple.{Triple}
use Rattle.rdf_text.specs.Marks.{quotation_mark, full_stop, at_sign, circumflex, number_sign}
use Rattle.bm_term.specs.Canonical.{RdfTerm, iri, blank, plain, tagged, literal_of}
use Rattle.rdf_text.specs.scanning.Text.{after_char, after_run, ◌>>=◌}
use Rattle.nt_read.specs.declared.line.LineFault.{LineFault}
use Rattle.nt_read.specs.declared.line.LineFault.TheVariants.{Bad, Memory}
use Rattle.nt_read.specs.Terminals.{is_blank}
use Rattle.rdf_text.specs.Classes.{is_comment_char}
use Rattle.nt_read.specs.Line.{triple_of}
use Rattle.rdf_escapes.specs.scanning.Iris.{scan_iri_ref}
use Rattle.rdf_escapes.specs.scanning.Strings.{scan_string}
use Rattle.nt_read.specs.scanning.Terminals.{scan_langtag, scan_label}

-- what is found in a line: it may be bad, spell nothing, or spell a triple
pub data ScannedLine : Type 0 where
  bad : ScannedLine
  nothing : ScannedLine
  spelled : Triple → ScannedLine

-- what follows white space in front
abbrev pub after_blanks : List ℕ → List ℕ
after_blanks text = after_run is_blank text

-- a term in front gives the term, and what follows it
abbrev pub ScanTerm : Type 0
ScanTerm = List ℕ → Option (RdfTerm × List ℕ)

abbrev pub scan_iri : ScanTerm
scan_iri text = option_map (λ found. (iri found.0, found.1)) (scan_iri_ref text)

abbrev pub scan_blank : ScanTerm
scan_blank text = option_map (λ found. (blank found.0, found.1)) (scan_label text)

abbrev pub scan_node : ScanTerm
scan_node text = option_or (scan_iri text) (scan_blank text)

unfoldable pub scan_subject : ScanTerm
scan_subject text = scan_node (after_blanks text)

unfoldable pub scan_predicate : ScanTerm
scan_predicate text = scan_iri (after_blanks text)

-- after the lexical form of a literal: LANGTAG
unfoldable pub scan_tag : List ℕ → ScanTerm
scan_tag lexical text = option_map (λ found. (tagged lexical found.0, found.1)) (scan_langtag text)

-- after it and a circumflex: the other circumflex, and IRIREF
unfoldable pub scan_datatype : List ℕ → ScanTerm
scan_datatype lexical text = do
  mark ← after_char circumflex text
  option_map (λ found. (literal_of lexical found.0, found.1)) (scan_iri_ref (after_blanks mark))

-- after it: ('^^' IRIREF | LANGTAG)?, where start is the text after white space
unfoldable pub scan_tail : List ℕ → List ℕ → ScanTerm
scan_tail lexical text [] = Some (plain lexical, text)
scan_tail lexical text (c ∷ cs) =
    if c == at_sign then scan_tag lexical (c ∷ cs)
    else (if c == circumflex then scan_datatype lexical cs else Some (plain lexical, text))

unfoldable pub scan_literal : ScanTerm
scan_literal text = do
  string ← scan_string quotation_mark text
  scan_tail string.0 string.1 (after_blanks string.1)

unfoldable pub scan_object : ScanTerm
scan_object text = let start = after_blanks text in option_or (scan_node start) (scan_literal start)

-- whether a text is empty or a comment
abbrev pub is_comment_or_nothing : List ℕ → Bool
is_comment_or_nothing [] = true
is_comment_or_nothing (c ∷ cs) = c == number_sign && length (after_run is_comment_char cs) == 0

-- whether it is so after white space
unfoldable pub is_end : List ℕ → Bool
is_end text = is_comment_or_nothing (after_blanks text)

-- three terms and a dot, and no more than a comment after it
unfoldable pub scan_statement : List ℕ → Option (RdfTerm × RdfTerm × RdfTerm)
scan_statement text = do
  subject ← scan_subject text
  predicate ← scan_predicate subject.1
  object ← scan_object predicate.1
  rest ← after_char full_stop (after_blanks object.1)
  if is_end rest then Some (subject.0, predicate.0, object.0) else None

abbrev pub line_of_terms : Option (RdfTerm × RdfTerm × RdfTerm) → ScannedLine
line_of_terms None = bad
line_of_terms (Some terms) = spelled (triple_of terms.0 terms.1 terms.2)

unfoldable pub scan_chars : List ℕ → ScannedLine
scan_chars text = if is_end text then nothing else line_of_terms (scan_statement text)

-- the bytes of a line
unfoldable pub scan_line : List ℕ → ScannedLine
scan_line line = if is_utf8 line then scan_chars (chars line) else bad

-- a result answers what is found, unless memory ran out
abbrev pub AnswersLine : ScannedLine → Result (Option Triple) LineFault → Type 0
AnswersLine found (Ok (Some triple)) = found ≡ spelled triple
AnswersLine found (Ok None) = found ≡ nothing
AnswersLine found (Err Bad) = found ≡ bad
AnswersLine found (Err Memory) = Unit {0}
