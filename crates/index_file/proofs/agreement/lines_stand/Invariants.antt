use Rattle.std.proofs.Common.{◌↔◌, length}
use Rattle.index_file.specs.steps.Rows.{LinesStand}
use Rattle.index_file.proofs.agreement.lines_stand.Given as goal

abbrev pub invariant-loop-number : goal.invariant-loop-number
invariant-loop-number l = LinesStand l.n l.others l.initial.lines ↔ LinesStand l.n l.others l.lines

abbrev pub decreases-loop-number : goal.decreases-loop-number
decreases-loop-number l = length l.lines
