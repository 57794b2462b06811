-- Carries proofs only: what is taken from one line.
use Rattle.std.specs.Prelude.{◌≡◌, false, true, Result, Ok, Err}
use Rattle.bm_term.specs.Kept.{Kept, HasTaken}
use Rattle.nt_read.specs.declared.line.LineFault.{LineFault}
use Rattle.nt_read.specs.declared.line.LineFault.TheVariants.{Bad, Memory}
use Rattle.nt_read.specs.scanning.Line.{ScannedLine}
use Rattle.nt_read.specs.scanning.Lines.{is_bad, triples_in}

-- the triple that a line spells was taken, if it spells one; else nothing
abbrev pub TakesLine : ScannedLine → Kept → Kept → Result (Unit {0}) LineFault → Type 0
TakesLine found old new (Ok _) = (is_bad found ≡ false) × HasTaken old new (triples_in found)
TakesLine found old new (Err Bad) = (is_bad found ≡ true) × (new ≡ old)
TakesLine found old new (Err Memory) = new ≡ old
