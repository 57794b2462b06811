use Rattle.std.proofs.Common.{◌≡◌, [], arith, false, length, replicate, map, sym, ◌∙◌, subst}
use Rattle.std.proofs.lemmas.List.{length-replicate}
use Rattle.std.proofs.lemmas.Result.{IfOk-weaker}
use Rattle.pattern_tree.specs.BestRows.{AreBest}
use Rattle.pattern_tree.specs.FlatTable.{row_of}
use Rattle.null_best.specs.steps.Marks.{AddsMarks, IsImproved, unmarked}
use Rattle.null_best.proofs.Bests.{best-unmarked}
use Rattle.null_best.proofs.best.best_in_order.Goals as goal

pub mark_extended-requires-clause-widths : goal.mark_extended-requires-clause-widths
mark_extended-requires-clause-widths c = record {
  same = λ i j at_i at_j. c.requires.widths i [] at_i ∙ sym (c.requires.widths j [] at_j);
  few = λ i at. omega (arith, c.requires.widths i [] at, c.requires.few);
}

pub returns-clause-best : goal.returns-clause-best
returns-clause-best c =
    let keys = c.args.keys.now in
    let marks = c.mark_extended.new.marks in
    let adds : AddsMarks (IsImproved c.args.keys.now) (replicate (length c.args.keys.now) false) c.mark_extended.new.marks =
    subst (λ old. AddsMarks (IsImproved keys) old marks) c.requires.none c.in_ok-mark_extended.ensures in
    IfOk-weaker c.unmarked_rows.result (λ rows. rows.rows ≡ map row_of (unmarked keys marks)) (λ rows. AreBest (map row_of keys) rows.rows)
    (λ rows is. subst (AreBest (map row_of keys)) (sym is) (best-unmarked keys marks c.requires.ascends adds (adds.len ∙ length-replicate (length keys) false)))
    c.unmarked_rows.ensures.rows
