use Rattle.std.proofs.Common.{◌≡◌, length}
use Rattle.rdf_text.specs.scanning.Spelling.{after_spelling}
use Rattle.rdf_text.specs.scanning.Repetition.{after_pieces}
use Rattle.rdf_text.proofs.runs.after_spelled_bytes.Given as goal

abbrev pub invariant-loop-after : goal.invariant-loop-after
invariant-loop-after l = after_pieces after_spelling l.rest ≡ after_pieces after_spelling l.bytes

abbrev pub decreases-loop-after : goal.decreases-loop-after
decreases-loop-after l = length l.rest
