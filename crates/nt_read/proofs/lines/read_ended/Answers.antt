use Rattle.std.proofs.Common.{◌≡◌, ◌∙◌, ap, refl, arith}
use Rattle.std.proofs.lemmas.Result.{err_from_is_err_and}
use Rattle.nt_read.specs.scanning.Lines.{lines_of}
use Rattle.nt_read.specs.Pieces.{ended, unfinished}
use Rattle.nt_read.proofs.Pieces.{ended-next, unfinished-next}
use Rattle.nt_read.proofs.Reading.{none_read, read-next, fault_read}
use Rattle.nt_read.proofs.lines.read_ended.Goals as goal

pub loop-line-init : goal.loop-line-init
loop-line-init g c = record { read = none_read _ _ c.args.ends (omega arith); last = refl }

pub returns-in_err-before-clause-answers : goal.returns-in_err-before-clause-answers
returns-in_err-before-clause-answers g c =
    let p = err_from_is_err_and c.from_residual.result c.from_residual.ensures.1 in
    let split = ap ended c.in-Some.ensures.some ∙ ended-next c.in-Some.line.now c.in-Some.after.now in
    let so_far = rw split at c.loop-line.invariant.read in
    rw (p.1, p.2) ((fault_read _ _ _ _ _ _ _ _ _ so_far c.in_err-before.ensures.answers c.in_err-before.ensures.takes).0)

pub returns-in_err-before-clause-takes : goal.returns-in_err-before-clause-takes
returns-in_err-before-clause-takes g c =
    let p = err_from_is_err_and c.from_residual.result c.from_residual.ensures.1 in
    let split = ap ended c.in-Some.ensures.some ∙ ended-next c.in-Some.line.now c.in-Some.after.now in
    let so_far = rw split at c.loop-line.invariant.read in
    rw (p.1, p.2) ((fault_read _ _ _ _ _ _ _ _ _ so_far c.in_err-before.ensures.answers c.in_err-before.ensures.takes).1)

pub loop-line-preserved : goal.loop-line-preserved
loop-line-preserved g c =
    let line = c.in-Some.line.now in
    let after = c.in-Some.after.now in
    let split = ap ended c.in-Some.ensures.some ∙ ended-next line after in
    let so_far = rw split at c.loop-line.invariant.read in
    let last : unfinished (lines_of c.loop-line.rest.now) ≡ unfinished (lines_of after) = ap unfinished c.in-Some.ensures.some ∙ unfinished-next line after in
    record {
      read = read-next _ _ line _ _ _ _ _ _ so_far c.in_ok-before.ensures.answers c.in_ok-before.ensures.takes c.in_ok-before.ensures.counts;
      last = cc (last, c.loop-line.invariant.last);
    }
