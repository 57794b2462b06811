-- Carries proofs only: names with dots inside and language tags, read from the front of a text.
use Rattle.std.specs.Prelude.{ℕ, Bool, ◌==◌, if◌then◌else◌, Option, Some, None, option_and_then, List, [], ◌∷◌}
use Rattle.std.specs.Option.{option_map}
use Rattle.rdf_text.specs.Marks.{full_stop, hyphen}
use Rattle.rdf_text.specs.scanning.Repetition.{after_pieces}
use Rattle.rdf_text.specs.scanning.Text.{after_char, after_some}

-- What follows the longest such text. Here `end` follows the last character that a name may end with.
unfoldable pub dotted_end : (ℕ → Bool) → List ℕ → List ℕ → List ℕ
dotted_end inner end [] = end
dotted_end inner end (c ∷ cs) =
    if inner c then dotted_end inner cs cs else (if c == full_stop then dotted_end inner end cs else end)

unfoldable pub after_dotted_name : (ℕ → Bool) → (ℕ → Bool) → List ℕ → Option (List ℕ)
after_dotted_name first inner [] = None
after_dotted_name first inner (c ∷ cs) = if first c then Some (dotted_end inner cs cs) else None

unfoldable pub after_subtag : (ℕ → Bool) → List ℕ → Option (List ℕ)
after_subtag alphanumeric text = option_and_then (after_some alphanumeric) (after_char hyphen text)

unfoldable pub after_language_tag : (ℕ → Bool) → (ℕ → Bool) → List ℕ → Option (List ℕ)
after_language_tag letter alphanumeric text = option_map (after_pieces (after_subtag alphanumeric)) (after_some letter text)
