use Rattle.std.proofs.Common.{◌≡◌, length}
use Rattle.rdf_text.specs.scanning.Text.{after_run}
use Rattle.rdf_text.proofs.runs.after_blocks.Given as goal

abbrev pub invariant-loop-block : goal.invariant-loop-block
invariant-loop-block g l = after_run g.C.ByteClass.members l.rest ≡ after_run g.C.ByteClass.members l.bytes

abbrev pub decreases-loop-block : goal.decreases-loop-block
decreases-loop-block g l = length l.rest
