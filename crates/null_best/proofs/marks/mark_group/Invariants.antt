use Rattle.std.proofs.Common.{◌≡◌, ◌≤◌, length}
use Rattle.null_best.specs.steps.Marks.{AddsMarks, IsImprovedAcross, front_of}
use Rattle.null_best.proofs.marks.mark_group.Given as goal

abbrev pub invariant-loop-i : goal.invariant-loop-i
invariant-loop-i l =
    (l.small.start ≤ l.near) × AddsMarks (IsImprovedAcross l.keys (front_of l.large l.i) l.small) l.initial.marks l.marks
