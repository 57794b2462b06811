use Rattle.std.proofs.Common.{arith}
use Rattle.std.proofs.lemmas.Result.{err_from_is_err_and}
use Rattle.index_image.proofs.MeasureLaws.{IsMeasured-end, IsMeasured-most, length-numbering_bytes}
use Rattle.index_image.proofs.measure.measure.Goals as goal

pub returns-in_err-start : goal.returns-in_err-start
returns-in_err-start c =
    let p = err_from_is_err_and c.from_residual.result c.from_residual.ensures.1 in
    let all = length-numbering_bytes c.args.form c.args.numbers.now in
    rw (p.1, p.2) (IsMeasured-end c.args.form c.args.numbers.now _ _ (omega (arith, all, c.text_count.ensures.count, c.slice_count.ensures.count)) c.in_err-start.ensures)

pub returns-in_err-slices_at : goal.returns-in_err-slices_at
returns-in_err-slices_at c =
    let p = err_from_is_err_and c.from_residual-in_err-slices_at.result c.from_residual-in_err-slices_at.ensures.1 in
    let all = length-numbering_bytes c.args.form c.args.numbers.now in
    rw (p.1, p.2) (IsMeasured-end c.args.form c.args.numbers.now _ _ (omega (arith, all, c.text_count.ensures.count, c.slice_count.ensures.count, c.in_ok-start.ensures)) c.in_err-slices_at.ensures)

pub returns-in_err-most : goal.returns-in_err-most
returns-in_err-most c =
    let p = err_from_is_err_and c.from_residual-in_err-most.result c.from_residual-in_err-most.ensures.1 in
    rw (p.1, p.2) (IsMeasured-most c.args.form c.args.numbers.now _ _ (omega (arith, c.text_count.ensures.count, c.slice_count.ensures.count, c.in_ok-start.ensures, c.in_ok-slices_at.ensures)) c.in_err-most.ensures)

pub returns : goal.returns
returns c = record {
  texts = omega (arith, c.in_ok-start.ensures, c.in_ok-slices_at.ensures);
  slices_at = omega (arith, c.text_count.ensures.count, c.slice_count.ensures.count, c.in_ok-start.ensures, c.in_ok-slices_at.ensures);
  short = omega (arith, length-numbering_bytes c.args.form c.args.numbers.now, c.text_count.ensures.count, c.slice_count.ensures.count, c.in_ok-start.ensures, c.in_ok-slices_at.ensures, c.in_ok-most.ensures);
}
