use Rattle.null_best.specs.steps.Marks.{AddsMarks, IsImprovedBelow}
use Rattle.null_best.proofs.marks.mark_by.Given as goal

abbrev pub invariant-loop-small : goal.invariant-loop-small
invariant-loop-small l = AddsMarks (IsImprovedBelow l.keys l.large l.groups l.small-index) l.initial.marks l.marks
