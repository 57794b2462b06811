use Rattle.std.proofs.Common.{◌≡◌, ◌+◌, ◌-◌, ◌*◌, [], take, drop, arith, ap, sym, ◌∙◌}
use Rattle.answer_rows.proofs.Cuts.{in_rows-at}
use Rattle.answer_rows.proofs.text_rows.row_at.Goals as goal

pub returns-clause-cells : goal.returns-clause-cells
returns-clause-cells c =
    let start = c.args.i * c.args.width in
    let wide : start + c.args.width - start ≡ c.args.width = omega arith in
    ap (λ k. take k (drop start c.args.cells.now)) wide
    ∙ sym (in_rows-at c.args.width c.args.count c.args.i c.args.cells.now [] c.requires.exists)
