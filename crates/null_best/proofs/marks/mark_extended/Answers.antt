use Rattle.std.proofs.Common.{◌≡◌, length, arith, subst}
use Rattle.null_best.specs.steps.Marks.{AddsMarks, IsImproved, IsImprovedFrom}
use Rattle.null_best.proofs.Improving.{from-all}
use Rattle.null_best.proofs.Marking.{adds-same}
use Rattle.null_best.proofs.marks.mark_extended.Goals as goal

pub returns : goal.returns
returns c =
    let keys = c.args.keys.now in
    let groups = c.args.groups.now in
    let n : c.loop-large.large-index ≡ length c.args.groups.now = omega arith in
    adds-same (IsImprovedFrom keys groups (length groups)) (IsImproved keys) c.args.marks.now c.loop-large.marks (from-all keys groups c.requires.groups)
    (subst (λ m. AddsMarks (IsImprovedFrom keys groups m) c.args.marks.now c.loop-large.marks) n c.loop-large.invariant)
