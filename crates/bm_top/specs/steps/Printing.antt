-- Carries proofs only: how printing the answers ends.
use Rattle.std.specs.Prelude.{Result, Ok, Err}
use Rattle.result_write.specs.declared.form.WriteEnd.{WriteEnd}
use Rattle.result_write.specs.declared.form.WriteEnd.TheVariants as write_ends
use Rattle.bm_top.specs.declared.ending.Ending.{Ending}
use Rattle.bm_top.specs.declared.ending.Ending.TheVariants as ends

-- how the command ends by how printing ended
abbrev pub after_writing : Result (Unit {0}) WriteEnd → Ending
after_writing (Ok _) = ends.Done
after_writing (Err write_ends.Failed) = ends.WriteFault
after_writing (Err write_ends.Memory) = ends.Memory
