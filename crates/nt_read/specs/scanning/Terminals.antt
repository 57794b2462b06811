-- Carries proofs only: how a language tag and the label of a blank node are read from the front of a text. An IRI and a
-- string are read as in rdf_escapes.
use Rattle.std.specs.Prelude.{Some, map}
use Rattle.std.specs.Char.{to_ascii_lowercase}
use Rattle.rdf_text.specs.Classes.{is_letter, is_alphanumeric, is_nt_label_first, is_nt_pn_chars}
use Rattle.rdf_text.specs.Marks.{colon, at_sign, low_line}
use Rattle.rdf_text.specs.scanning.Names.{after_dotted_name, after_language_tag}
use Rattle.rdf_text.specs.scanning.Text.{◌>>=◌, after_char, before}
use Rattle.rdf_escapes.specs.scanning.Pieces.{Scan}

-- LANGTAG
unfoldable pub scan_langtag : Scan
scan_langtag text = do
  tag ← after_char at_sign text
  rest ← after_language_tag is_letter is_alphanumeric tag
  Some (map to_ascii_lowercase (before tag rest), rest)

-- BLANK_NODE_LABEL
unfoldable pub scan_label : Scan
scan_label text = do
  mark ← after_char low_line text
  label ← after_char colon mark
  rest ← after_dotted_name is_nt_label_first is_nt_pn_chars label
  Some (before label rest, rest)
