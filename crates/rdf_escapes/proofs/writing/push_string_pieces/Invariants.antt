use Rattle.std.proofs.Common.{◌≡◌, ◌++◌, length}
use Rattle.std.specs.Prelude.{string_bytes}
use denote.Text.{Utf8}
use denote.Shadow.{shadow}
use Rattle.std.specs.Str.{chars, encode_utf8_all}
use Rattle.rdf_text.specs.Spelling.{escaped}
use Rattle.rdf_escapes.specs.scanning.Pieces.{values}
use Rattle.rdf_escapes.specs.scanning.Strings.{string_piece}
use Rattle.rdf_escapes.proofs.writing.push_string_pieces.Given as goal

abbrev pub invariant-loop-c : goal.invariant-loop-c
invariant-loop-c l =
    shadow (Utf8 l.rest)
    × (string_bytes l.out ++ encode_utf8_all (escaped (values (string_piece l.mark) (chars l.rest))) ≡ string_bytes l.initial.out ++ encode_utf8_all (escaped (values (string_piece l.mark) (chars l.text))))

abbrev pub decreases-loop-c : goal.decreases-loop-c
decreases-loop-c l = length (chars l.rest)
