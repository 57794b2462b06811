use Rattle.std.proofs.Common.{Ok, Err, arith}
use Rattle.std.proofs.lemmas.Result.{err_from_is_err_and}
use Rattle.nt_read.proofs.FedPieces.{whole_answers, whole_takes, last_answers, last_takes, early_fails, early_takes}
use Rattle.nt_read.proofs.lines.read_lines.Goals as goal

pub returns-in_err-last-clause-answers : goal.returns-in_err-last-clause-answers
returns-in_err-last-clause-answers g c =
    let p = err_from_is_err_and c.from_residual.result c.from_residual.ensures.1 in
    let bytes = c.args.bytes.now in
    rw (p.1, p.2) (whole_answers bytes (Err c.in_err-last.field-0.0) (omega arith) (early_fails bytes c.in_err-last.field-0.0 c.in_err-last.ensures.answers))

pub returns-in_err-last-clause-takes : goal.returns-in_err-last-clause-takes
returns-in_err-last-clause-takes g c =
    let p = err_from_is_err_and c.from_residual.result c.from_residual.ensures.1 in
    let bytes = c.args.bytes.now in
    let kept = g.T.Taker.kept in
    let fault = c.in_err-last.field-0.0 in
    rw (p.1, p.2) (whole_takes bytes (kept c.args.into.now) (kept c.read_ended.new.into) (Err fault) (omega arith) (early_fails bytes fault c.in_err-last.ensures.answers)
    (early_takes bytes (kept c.args.into.now) (kept c.read_ended.new.into) fault c.in_err-last.ensures.answers c.in_err-last.ensures.takes))

pub returns-in_err-read_next-clause-answers : goal.returns-in_err-read_next-clause-answers
returns-in_err-read_next-clause-answers g c =
    let p = err_from_is_err_and c.from_residual-in_err-read_next.result c.from_residual-in_err-read_next.ensures.1 in
    let bytes = c.args.bytes.now in
    let fault = c.in_err-read_next.field-0.0 in
    rw (p.1, p.2) (whole_answers bytes (Err fault) (omega arith)
    (last_answers bytes c.in_ok-last.ends (Err fault) c.in_ok-last.ensures.answers c.in_ok-last.ensures.counts (rw c.in_ok-last.ensures.last at c.in_err-read_next.ensures.answers)))

pub returns-in_err-read_next-clause-takes : goal.returns-in_err-read_next-clause-takes
returns-in_err-read_next-clause-takes g c =
    let p = err_from_is_err_and c.from_residual-in_err-read_next.result c.from_residual-in_err-read_next.ensures.1 in
    let bytes = c.args.bytes.now in
    let kept = g.T.Taker.kept in
    let fault = c.in_err-read_next.field-0.0 in
    rw (p.1, p.2) (whole_takes bytes (kept c.args.into.now) (kept c.read_next.new.into) (Err fault) (omega arith)
    (last_answers bytes c.in_ok-last.ends (Err fault) c.in_ok-last.ensures.answers c.in_ok-last.ensures.counts (rw c.in_ok-last.ensures.last at c.in_err-read_next.ensures.answers))
    (last_takes bytes (kept c.args.into.now) (kept c.read_ended.new.into) (kept c.read_next.new.into) (Err fault) c.in_ok-last.ensures.answers c.in_ok-last.ensures.takes
    (rw c.in_ok-last.ensures.last at c.in_err-read_next.ensures.takes)))

pub returns-clause-answers : goal.returns-clause-answers
returns-clause-answers g c =
    let bytes = c.args.bytes.now in
    whole_answers bytes (Ok tt) (omega arith)
    (last_answers bytes c.in_ok-last.ends (Ok tt) c.in_ok-last.ensures.answers c.in_ok-last.ensures.counts (rw c.in_ok-last.ensures.last at c.in_ok-read_next.ensures.answers))

pub returns-clause-takes : goal.returns-clause-takes
returns-clause-takes g c =
    let bytes = c.args.bytes.now in
    let kept = g.T.Taker.kept in
    whole_takes bytes (kept c.args.into.now) (kept c.read_next.new.into) (Ok tt) (omega arith)
    (last_answers bytes c.in_ok-last.ends (Ok tt) c.in_ok-last.ensures.answers c.in_ok-last.ensures.counts (rw c.in_ok-last.ensures.last at c.in_ok-read_next.ensures.answers))
    (last_takes bytes (kept c.args.into.now) (kept c.read_ended.new.into) (kept c.read_next.new.into) (Ok tt) c.in_ok-last.ensures.answers c.in_ok-last.ensures.takes
    (rw c.in_ok-last.ensures.last at c.in_ok-read_next.ensures.takes))
