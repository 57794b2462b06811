-- Carries proofs only: the parts of a canonical text, read from its front. The laws that tie this to canonical texts are in
-- proofs/.
use Rattle.std.specs.Prelude.{ℕ, ◌==◌, if◌then◌else◌, Option, Some, None, bytes_eq, List, [], ◌∷◌}
use Rattle.std.specs.Option.{option_map}
use Rattle.std.specs.Str.{chars}
use Rattle.rdf_text.specs.Marks.{quotation_mark, colon, less_than, greater_than, at_sign, circumflex, low_line}
use Rattle.rdf_text.specs.Classes.{is_lower_letter, is_lower_alphanumeric, is_nt_label_first, is_nt_pn_chars, is_irichar}
use Rattle.rdf_text.specs.scanning.Names.{after_dotted_name, after_language_tag}
use Rattle.rdf_text.specs.scanning.Repetition.{after_pieces}
use Rattle.rdf_text.specs.scanning.Spelling.{after_spelling}
use Rattle.rdf_text.specs.scanning.Text.{◌>>=◌, at_end, after_char, after_run, before}
use Rattle.bm_term.specs.declared.term_parts.TermKind.{TermKind}
use Rattle.bm_term.specs.declared.term_parts.TermKind.TheVariants.{Iri, Blank, Plain, Tagged, Typed}
use Rattle.bm_term.specs.declared.term_parts.Parts.{Parts}
use Rattle.bm_term.specs.Canonical.{xsd_string}

-- an IRI up to its closing bracket, and what follows that
unfoldable pub split_iri : List ℕ → Option (List ℕ × List ℕ)
split_iri text =
    let end = after_run is_irichar text in
    option_map (λ rest. (before text end, rest)) (after_char greater_than end)

-- the kind of a term, its body and its tail
abbrev pub ScannedParts : Type 0
ScannedParts = TermKind × List ℕ × List ℕ

unfoldable pub scan_iri : List ℕ → Option ScannedParts
scan_iri text = do
  iri ← split_iri text
  at_end iri.1 (Iri, iri.0, [])

unfoldable pub scan_blank : List ℕ → Option ScannedParts
scan_blank text = do
  label ← after_char colon text
  rest ← after_dotted_name is_nt_label_first is_nt_pn_chars label
  at_end rest (Blank, label, [])

unfoldable pub scan_tagged : List ℕ → List ℕ → Option ScannedParts
scan_tagged lexical tag = do
  rest ← after_language_tag is_lower_letter is_lower_alphanumeric tag
  at_end rest (Tagged, lexical, tag)

unfoldable pub scan_typed : List ℕ → List ℕ → Option ScannedParts
scan_typed lexical text = do
  mark ← after_char circumflex text
  datatype ← after_char less_than mark
  iri ← split_iri datatype
  if bytes_eq iri.0 xsd_string then None else at_end iri.1 (Typed, lexical, iri.0)

-- what follows the closing mark of a lexical form
unfoldable pub scan_tail : List ℕ → List ℕ → Option ScannedParts
scan_tail lexical [] = Some (Plain, lexical, [])
scan_tail lexical (c ∷ cs) =
    if c == at_sign then scan_tagged lexical cs else (if c == circumflex then scan_typed lexical cs else None)

unfoldable pub scan_literal : List ℕ → Option ScannedParts
scan_literal text =
    let end = after_pieces after_spelling text in
    after_char quotation_mark end >>= scan_tail (before text end)

unfoldable pub scan_term : List ℕ → Option ScannedParts
scan_term [] = None
scan_term (c ∷ cs) =
    if c == less_than then scan_iri cs
    else (if c == low_line then scan_blank cs
    else (if c == quotation_mark then scan_literal cs else None))

-- what the parts show, as characters
abbrev pub shown : Parts → ScannedParts
shown parts = (parts.kind, chars parts.body.now, chars parts.tail.now)
