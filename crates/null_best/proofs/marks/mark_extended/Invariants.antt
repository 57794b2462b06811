use Rattle.null_best.specs.steps.Marks.{AddsMarks, IsImprovedFrom}
use Rattle.null_best.proofs.marks.mark_extended.Given as goal

abbrev pub invariant-loop-large : goal.invariant-loop-large
invariant-loop-large l = AddsMarks (IsImprovedFrom l.keys l.groups l.large-index) l.initial.marks l.marks
