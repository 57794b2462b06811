use Rattle.std.proofs.Common.{◌≡◌, length}
use denote.Text.{Utf8}
use denote.Shadow.{shadow}
use Rattle.std.specs.Str.{chars}
use Rattle.rdf_text.specs.scanning.Names.{dotted_end}
use Rattle.rdf_text.proofs.names.dotted_end.Given as goal

abbrev pub invariant-loop-c : goal.invariant-loop-c
invariant-loop-c g l =
    shadow (Utf8 l.end) × shadow (Utf8 l.rest)
    × (dotted_end g.I.CharClass.members (chars l.end) (chars l.rest) ≡ dotted_end g.I.CharClass.members (chars l.text) (chars l.text))

abbrev pub decreases-loop-c : goal.decreases-loop-c
decreases-loop-c g l = length (chars l.rest)
