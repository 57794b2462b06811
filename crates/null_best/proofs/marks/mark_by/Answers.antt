use Rattle.std.proofs.Common.{◌≡◌, ◌+◌, length, arith, sym, subst}
use Rattle.null_best.specs.steps.Groups.{IsGroup}
use Rattle.null_best.specs.steps.Marks.{AddsMarks, IsImprovedAcross, IsImprovedBelow, IsImprovedBy, group_at}
use Rattle.null_best.proofs.Improving.{across-none, below-all, below-step}
use Rattle.null_best.proofs.Marking.{adds-none, adds-same, adds-then}
use Rattle.null_best.proofs.marks.mark_by.Goals as goal
use Rattle.null_best.proofs.marks.mark_by.Goals.{then-is_part+in_ok-mark_group, else-is_part}

pub loop-small-preserved : goal.loop-small-preserved
loop-small-preserved c =
    let keys = c.args.keys.now in
    let large = c.args.large.now in
    let groups = c.args.groups.now in
    let i = c.loop-small.small-index in
    let small = group_at groups i in
    let is_small : IsGroup c.args.keys.now (group_at c.args.groups.now c.loop-small.small-index) = c.requires.groups.each i (record { vars = 0; start = 0; end = 0 }) c.loop-small-test.true in
    elim c.if-is_part.branch [
      | then-is_part+in_ok-mark_group w ↦ subst (AddsMarks (IsImprovedBelow keys large groups (i + 1)) c.args.marks.now) (sym w.marks-is)
          (adds-then (IsImprovedBelow keys large groups i) (IsImprovedAcross keys large small) (IsImprovedBelow keys large groups (i + 1)) c.args.marks.now c.loop-small.marks w.mark_group.new.marks
          (below-step keys large groups i) c.loop-small.invariant w.in_ok-mark_group.ensures)
      | else-is_part w ↦ subst (AddsMarks (IsImprovedBelow keys large groups (i + 1)) c.args.marks.now) (sym w.marks-is)
          (adds-then (IsImprovedBelow keys large groups i) (IsImprovedAcross keys large small) (IsImprovedBelow keys large groups (i + 1)) c.args.marks.now c.loop-small.marks c.loop-small.marks
          (below-step keys large groups i) c.loop-small.invariant
          (adds-none (IsImprovedAcross keys large small) c.loop-small.marks (across-none keys large small c.requires.widths c.requires.large is_small (λ part. absurd (cc (w.if-is_part.false, c.is_part.ensures.1 part))))))
    ]

pub returns : goal.returns
returns c =
    let keys = c.args.keys.now in
    let large = c.args.large.now in
    let groups = c.args.groups.now in
    let n : c.loop-small.small-index ≡ length c.args.groups.now = omega arith in
    adds-same (IsImprovedBelow keys large groups (length groups)) (IsImprovedBy keys large) c.args.marks.now c.loop-small.marks (below-all keys large groups c.requires.groups)
    (subst (λ m. AddsMarks (IsImprovedBelow keys large groups m) c.args.marks.now c.loop-small.marks) n c.loop-small.invariant)
