-- What a result that answers what is found in a line says of the line.
use Rattle.std.proofs.Common.{◌≡◌, ℕ, Option, Some, None, Result, Ok, Err, List, subst}
use Rattle.std.specs.Prelude.{IfOk, IfSome, IfNone, IsErrOf}
use Rattle.bm_term.specs.declared.triple.Triple.{Triple}
use Rattle.bm_term.specs.Triple.{IsRdfTriple}
use Rattle.nt_read.specs.declared.line.LineFault.{LineFault}
use Rattle.nt_read.specs.declared.line.LineFault.TheVariants.{Bad, Memory}
use Rattle.nt_read.specs.Line.{Spells, SpellsNothing, IsBadLine}
use Rattle.nt_read.specs.scanning.Line.{ScannedLine, scan_line, AnswersLine}
use Rattle.nt_read.proofs.LineLaws.{scanned_is_spelled, scanned_is_nothing, scanned_is_bad, spelled_is_rdf}

-- what `read_line` answers
abbrev Answer : Type 0
Answer = Result (Option Triple) LineFault

-- a triple that is answered is spelled
pub answers_spelled : (line : List ℕ) (result : Answer) → AnswersLine (scan_line line) result → IfOk result (λ answer. IfSome answer (λ triple. Spells line triple))
answers_spelled line (Ok (Some triple)) reads = scanned_is_spelled line triple reads
answers_spelled line (Ok None) reads = tt
answers_spelled line (Err fault) reads = tt

-- where none is answered, nothing is spelled
pub answers_nothing : (line : List ℕ) (result : Answer) → AnswersLine (scan_line line) result → IfOk result (λ answer. IfNone answer (SpellsNothing line))
answers_nothing line (Ok (Some triple)) reads = tt
answers_nothing line (Ok None) reads = scanned_is_nothing line reads
answers_nothing line (Err fault) reads = tt

-- where `Bad` is answered, the line is bad
pub answers_bad : (line : List ℕ) (result : Answer) → AnswersLine (scan_line line) result → IsErrOf result Bad → IsBadLine line
answers_bad line (Ok answer) reads e = absurd (cc)
answers_bad line (Err Bad) reads e = scanned_is_bad line reads
answers_bad line (Err Memory) reads e = absurd (cc)

-- a triple that is answered is one of RDF
pub answers_rdf : (line : List ℕ) (result : Answer) → AnswersLine (scan_line line) result → IfOk result (λ answer. IfSome answer (λ triple. IsRdfTriple triple))
answers_rdf line (Ok (Some triple)) reads = spelled_is_rdf line triple (scanned_is_spelled line triple reads)
answers_rdf line (Ok None) reads = tt
answers_rdf line (Err fault) reads = tt

-- an answer is that of what is found
pub answers_only : (line : List ℕ) (scanned : ScannedLine) (result : Answer) → AnswersLine (scan_line line) result → scan_line line ≡ scanned → AnswersLine scanned result
answers_only line scanned result reads is = subst (λ r. AnswersLine r result) is reads
