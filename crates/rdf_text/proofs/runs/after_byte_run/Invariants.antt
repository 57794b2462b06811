use Rattle.std.proofs.Common.{◌≡◌, length}
use Rattle.rdf_text.specs.scanning.Text.{after_run}
use Rattle.rdf_text.proofs.runs.after_byte_run.Given as goal

abbrev pub invariant-loop-rest : goal.invariant-loop-rest
invariant-loop-rest g l = after_run g.C.ByteClass.members l.rest ≡ after_run g.C.ByteClass.members l.bytes

abbrev pub decreases-loop-rest : goal.decreases-loop-rest
decreases-loop-rest g l = length l.rest
