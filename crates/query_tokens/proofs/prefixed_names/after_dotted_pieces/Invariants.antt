use Rattle.std.proofs.Common.{◌≡◌, length}
use denote.Text.{Utf8}
use denote.Shadow.{shadow}
use Rattle.std.specs.Str.{chars}
use Rattle.rdf_text.specs.scanning.Repetition.{after_pieces}
use Rattle.query_tokens.specs.scanning.PrefixedNames.{after_dotted_piece}
use Rattle.query_tokens.proofs.prefixed_names.after_dotted_pieces.Given as goal

abbrev pub invariant-loop-after : goal.invariant-loop-after
invariant-loop-after l = shadow (Utf8 l.rest) × (after_pieces after_dotted_piece (chars l.rest) ≡ after_pieces after_dotted_piece (chars l.text))

abbrev pub decreases-loop-after : goal.decreases-loop-after
decreases-loop-after l = length (chars l.rest)
