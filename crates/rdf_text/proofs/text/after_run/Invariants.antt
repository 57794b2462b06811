use Rattle.std.proofs.Common.{◌≡◌, length}
use denote.Text.{Utf8}
use denote.Shadow.{shadow}
use Rattle.std.specs.Str.{chars}
use Rattle.rdf_text.specs.scanning.Text.{after_run}
use Rattle.rdf_text.proofs.text.after_run.Given as goal

abbrev pub invariant-loop-c : goal.invariant-loop-c
invariant-loop-c g l =
    shadow (Utf8 l.rest) × (after_run g.C.CharClass.members (chars l.rest) ≡ after_run g.C.CharClass.members (chars l.text))

abbrev pub decreases-loop-c : goal.decreases-loop-c
decreases-loop-c g l = length (chars l.rest)
