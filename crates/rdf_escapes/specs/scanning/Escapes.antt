-- Carries proofs only: how an escape is read from the front of a text.
use Rattle.std.specs.Prelude.{◌+◌, ◌*◌, ℕ, ◌==◌, if◌then◌else◌, Some, None, [], ◌∷◌}
use Rattle.std.specs.Option.{option_map, option_or}
use Rattle.rdf_text.specs.Classes.{is_scalar, is_hex}
use Rattle.rdf_text.specs.Marks.{letter_u, capital_u}
use Rattle.rdf_text.specs.Spelling.{echar_value}
use Rattle.rdf_text.specs.scanning.Text.{◌>>=◌}
use Rattle.rdf_escapes.specs.Escapes.{hex_value}
use Rattle.rdf_escapes.specs.scanning.Pieces.{Step}

-- the value of a digit
unfoldable pub hex_digit : Step
hex_digit [] = None
hex_digit (c ∷ cs) = if is_hex c then Some (hex_value c, cs) else None

-- the number that four digits spell, and that eight spell
unfoldable pub four_digits : Step
four_digits text = do
  a ← hex_digit text
  b ← hex_digit a.1
  c ← hex_digit b.1
  d ← hex_digit c.1
  Some (4096 * a.0 + 256 * b.0 + 16 * c.0 + d.0, d.1)

unfoldable pub eight_digits : Step
eight_digits text = do
  high ← four_digits text
  low ← four_digits high.1
  Some (65536 * high.0 + low.0, low.1)

-- after a backslash and this letter: the number of a UCHAR, and the character
unfoldable pub uchar_number : ℕ → Step
uchar_number letter text =
    if letter == letter_u then four_digits text else (if letter == capital_u then eight_digits text else None)

unfoldable pub scan_uchar : ℕ → Step
scan_uchar letter text = do
  found ← uchar_number letter text
  if is_scalar found.0 then Some found else None

-- after a backslash: ECHAR | UCHAR
unfoldable pub scan_escape : Step
scan_escape [] = None
scan_escape (letter ∷ cs) = option_or (option_map (λ c. (c, cs)) (echar_value letter)) (scan_uchar letter cs)
