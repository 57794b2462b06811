-- Carries proofs only: how an IRI, and each of its characters, is read from the front of a text.
use Rattle.std.specs.Prelude.{◌==◌, if◌then◌else◌, Some, None, [], ◌∷◌}
use Rattle.rdf_text.specs.Classes.{is_irichar}
use Rattle.rdf_text.specs.Marks.{less_than, greater_than, backslash}
use Rattle.rdf_text.specs.scanning.Text.{◌>>=◌, after_char}
use Rattle.rdf_escapes.specs.scanning.Escapes.{scan_uchar}
use Rattle.rdf_escapes.specs.scanning.Pieces.{Step, Scan, values, after_values}

-- after a backslash: a UCHAR that gives a member of IRICHAR
unfoldable pub escaped_irichar : Step
escaped_irichar [] = None
escaped_irichar (letter ∷ cs) = do
  found ← scan_uchar letter cs
  if is_irichar found.0 then Some found else None

-- IRICHAR | UCHAR
unfoldable pub iri_piece : Step
iri_piece [] = None
iri_piece (c ∷ cs) =
    if c == backslash then escaped_irichar cs else (if is_irichar c then Some (c, cs) else None)

-- an IRI, after its opening bracket and whole
unfoldable pub scan_iri_body : Scan
scan_iri_body body = do
  rest ← after_char greater_than (after_values iri_piece body)
  Some (values iri_piece body, rest)

unfoldable pub scan_iri_ref : Scan
scan_iri_ref text = after_char less_than text >>= scan_iri_body
