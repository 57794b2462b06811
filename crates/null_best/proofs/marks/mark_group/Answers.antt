use Rattle.std.proofs.Common.{◌≡◌, ◌+◌, ◌<◌, length, arith, sym, ◌∙◌, ap, subst}
use Rattle.null_best.specs.steps.Cuts.{cut_to}
use Rattle.null_best.specs.steps.Groups.{IsIn, row_at}
use Rattle.null_best.specs.steps.Marks.{AddsMarks, IsImprovedAcross, front_of}
use Rattle.null_best.specs.steps.Searches.{Matches}
use Rattle.null_best.proofs.Cuts.{length-cut}
use Rattle.null_best.proofs.Improving.{across-step}
use Rattle.null_best.proofs.Marking.{adds-then}
use Rattle.null_best.proofs.Orders.{read_row}
use Rattle.null_best.proofs.marks.mark_group.Goals as goal

pub new-key-requires : goal.new-key-requires
new-key-requires c =
    let i = c.loop-i.i in
    let within : c.loop-i.i < length c.args.keys.now = omega (arith, c.requires.large.binds.within) in
    let cells : c.cells-in-loop-i.result.now ≡ cut_to c.args.small.now.vars (row_at c.args.keys.now c.loop-i.i) =
    c.cells-in-loop-i.ensures ∙ c.in_ok-cut.ensures
    ∙ ap (cut_to c.args.small.now.vars) (c.cells.ensures ∙ sym (read_row c.args.keys.now i c.index-keys-i.result within c.index-keys-i.is)) in
    omega (arith, ap length cells, length-cut c.args.small.now.vars (row_at c.args.keys.now i), c.requires.widths.few i within)

pub loop-i-preserved : goal.loop-i-preserved
loop-i-preserved c =
    let keys = c.args.keys.now in
    let large = c.args.large.now in
    let small = c.args.small.now in
    let i = c.loop-i.i in
    let from : IsIn c.args.large.now c.loop-i.i = record { from = omega arith; below = omega arith } in
    let cells : c.new-key.result ≡ cut_to c.args.small.now.vars (row_at c.args.keys.now c.loop-i.i) =
    c.new-key.ensures ∙ c.cells-in-loop-i.ensures ∙ c.in_ok-cut.ensures
    ∙ ap (cut_to small.vars) (c.cells.ensures ∙ sym (read_row keys i c.index-keys-i.result (omega (arith, c.requires.large.binds.within)) c.index-keys-i.is)) in
    let added : AddsMarks (Matches c.args.keys.now c.args.small.now (cut_to c.args.small.now.vars (row_at c.args.keys.now c.loop-i.i))) c.loop-i.marks c.mark_row-near.new.marks =
    subst (λ cut. AddsMarks (Matches keys small cut) c.loop-i.marks c.mark_row-near.new.marks) cells c.mark_row-near.ensures.marks in (
      c.mark_row-near.ensures.near,
      adds-then (IsImprovedAcross keys (front_of large i) small) (Matches keys small (cut_to small.vars (row_at keys i))) (IsImprovedAcross keys (front_of large (i + 1)) small)
          c.args.marks.now c.loop-i.marks c.mark_row-near.new.marks
          (across-step keys large small c.requires.widths c.requires.large c.requires.small c.requires.other i from) c.loop-i.invariant.1 added,
    )
