-- Carries proofs only: a string, read from the front of a text.
use Rattle.std.specs.Prelude.{ℕ, Option, List}
use Rattle.rdf_text.specs.scanning.Text.{after_char}
use Rattle.rdf_escapes.specs.scanning.Pieces.{after_values}
use Rattle.rdf_escapes.specs.scanning.Strings.{string_piece}

-- what follows, where the first mark is read
unfoldable pub after_string : ℕ → List ℕ → Option (List ℕ)
after_string mark text = after_char mark (after_values (string_piece mark) text)
