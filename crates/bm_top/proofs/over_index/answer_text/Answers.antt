use Rattle.std.proofs.Common.{Err, length, ap, ◌∙◌}
use Rattle.std.proofs.lemmas.Result.{err_from_is_err_and}
use Rattle.alg_model.specs.Pattern.{algebra_of}
use Rattle.well_designed.proofs.NamedVars.{refused-below}
use Rattle.bm_top.proofs.Over.{Says-fault, Says-unanswered, answered_rows}
use Rattle.bm_top.proofs.over_index.answer_text.Goals as goal

pub returns-in_err-query : goal.returns-in_err-query
returns-in_err-query c =
    let p = err_from_is_err_and c.from_residual.result c.from_residual.ensures.1 in
    rw (p.1, p.2) (λ graph form verdict numbers is. Says-fault form c.args.text.now graph verdict is _ c.in_err-query.ensures.fault)

pub returns-in-Ok : goal.returns-in-Ok
returns-in-Ok c = λ graph form verdict numbers is.
    answered_rows form c.args.text.now graph verdict is c.in_ok-query.query c.in_ok-query.ensures.denotes c.in-Ok.rows.rows c.in-Ok.ensures.accepted (c.in-Ok.ensures.rows graph numbers)

pub unanswered-requires : goal.unanswered-requires
unanswered-requires c = λ cause same.
    let query = c.in_ok-query.query in
    refused-below (length query.names) (algebra_of query.pattern) cause c.in_ok-query.ensures.limits.pattern.vars_below ((c.answer.ensures.refused cause).0 (c.in-Err.is ∙ ap Err same))

pub returns : goal.returns
returns c = λ graph form verdict numbers is.
    Says-unanswered form c.args.text.now graph verdict is c.in_ok-query.query c.in_ok-query.ensures.denotes c.in-Err.fault c.unanswered.result
    (λ cause same. (c.answer.ensures.refused cause).0 (c.in-Err.is ∙ ap Err same)) c.unanswered.ensures
