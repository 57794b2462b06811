use Rattle.std.proofs.Common.{◌↔◌, length}
use Rattle.index_file.specs.steps.Rows.{LinesMatch}
use Rattle.index_file.proofs.agreement.lines_match.Given as goal

abbrev pub invariant-loop-number : goal.invariant-loop-number
invariant-loop-number l = LinesMatch l.n l.others l.initial.lines ↔ LinesMatch l.n l.others l.lines

abbrev pub decreases-loop-number : goal.decreases-loop-number
decreases-loop-number l = length l.lines
