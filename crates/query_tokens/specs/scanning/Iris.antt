-- Carries proofs only: an IRI in brackets, read from the front of a text.
use Rattle.std.specs.Prelude.{ℕ, Option, List}
use Rattle.rdf_text.specs.Marks.{greater_than}
use Rattle.rdf_text.specs.scanning.Text.{after_char}
use Rattle.rdf_escapes.specs.scanning.Iris.{iri_piece}
use Rattle.rdf_escapes.specs.scanning.Pieces.{after_values}

-- what follows, where the '<' is read.
unfoldable pub after_iri : List ℕ → Option (List ℕ)
after_iri text = after_char greater_than (after_values iri_piece text)
