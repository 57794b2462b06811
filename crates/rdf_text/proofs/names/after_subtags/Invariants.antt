use Rattle.std.proofs.Common.{◌≡◌, length}
use denote.Text.{Utf8}
use denote.Shadow.{shadow}
use Rattle.std.specs.Str.{chars}
use Rattle.rdf_text.specs.scanning.Names.{after_subtag}
use Rattle.rdf_text.specs.scanning.Repetition.{after_pieces}
use Rattle.rdf_text.proofs.names.after_subtags.Given as goal

abbrev pub invariant-loop-after : goal.invariant-loop-after
invariant-loop-after g l =
    shadow (Utf8 l.rest)
    × (after_pieces (after_subtag g.A.CharClass.members) (chars l.rest) ≡ after_pieces (after_subtag g.A.CharClass.members) (chars l.text))

abbrev pub decreases-loop-after : goal.decreases-loop-after
decreases-loop-after g l = length (chars l.rest)
