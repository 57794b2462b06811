use Rattle.std.proofs.Common.{◌++◌, ◌∷◌, [], sym, ◌∙◌, arith}
use Rattle.engine_laws.specs.Terms.{text_at}
use Rattle.bm_query.proofs.NamedRows.{named_next, number_has}
use Rattle.bm_query.proofs.rows.read_row.Goals as goal

pub named_cell-requires : goal.named_cell-requires
named_cell-requires c = number_has c.args.index.now.numbering.terms c.args.numbers.now c.loop-number.number-index (omega (arith, c.loop-number-test.true)) c.requires

pub loop-number-preserved : goal.loop-number-preserved
loop-number-preserved c =
    c.in_ok-push.ensures.items ∙ (λ j. c.loop-number.invariant j ++ c.named_cell.ensures j ∷ [])
    ∙ sym (named_next (text_at c.args.index.now.numbering.terms) c.args.numbers.now c.loop-number.number-index (omega (arith, c.loop-number-test.true)))
