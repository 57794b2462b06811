-- Carries proofs only: how a string, and each of its characters, is read from the front of a text.
use Rattle.std.specs.Prelude.{ℕ, ◌==◌, if◌then◌else◌, Some, None, [], ◌∷◌}
use Rattle.rdf_text.specs.Marks.{backslash}
use Rattle.rdf_text.specs.scanning.Text.{◌>>=◌, after_char}
use Rattle.rdf_escapes.specs.Strings.{is_string_char}
use Rattle.rdf_escapes.specs.scanning.Escapes.{scan_escape}
use Rattle.rdf_escapes.specs.scanning.Pieces.{Step, Scan, values, after_values}

-- every character but the mark, the backslash, LF and CR | ECHAR | UCHAR
unfoldable pub string_piece : ℕ → Step
string_piece mark [] = None
string_piece mark (c ∷ cs) =
    if c == backslash then scan_escape cs else (if is_string_char mark c then Some (c, cs) else None)

-- a string, after its opening mark and whole
unfoldable pub scan_string_body : ℕ → Scan
scan_string_body mark body = do
  rest ← after_char mark (after_values (string_piece mark) body)
  Some (values (string_piece mark) body, rest)

unfoldable pub scan_string : ℕ → Scan
scan_string mark text = after_char mark text >>= scan_string_body mark
