use Rattle.std.proofs.Common.{length, ap, arith}
use Rattle.std.proofs.lemmas.Result.{err_from_is_err_and}
use Rattle.term_numbers.specs.Numbering.{term_table}
use Rattle.index_image.proofs.MeasureLaws.{IsEnd-longer, texts_fit, length_with_text}
use Rattle.index_image.proofs.measure.add_texts.Goals as goal

pub returns-in_err-end : goal.returns-in_err-end
returns-in_err-end c =
    let p = err_from_is_err_and c.from_residual.result c.from_residual.ensures.1 in
    let fits = texts_fit (term_table c.args.numbers.now.terms) c.loop-place.place _ c.term.ensures in
    let long = ap length c.bytes.ensures.text in
    rw (p.1, p.2) (IsEnd-longer _ _ _ (omega (arith, fits, long, c.loop-place.invariant)) c.in_err-end.ensures)

pub loop-place-preserved : goal.loop-place-preserved
loop-place-preserved c =
    let more = length_with_text (term_table c.args.numbers.now.terms) c.loop-place.place _ c.term.ensures in
    let long = ap length c.bytes.ensures.text in
    (omega (arith, more, long, c.loop-place.invariant, c.in_ok-end.ensures), omega (arith, c.in_ok-end.ensures))
