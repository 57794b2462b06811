use Rattle.std.proofs.lemmas.Result.{IfOk-weaker}
use Rattle.pattern_tree.specs.BestRows.{AreBest}
use Rattle.null_best.proofs.Bests.{best-same}
use Rattle.null_best.proofs.best.best_match.Goals as goal

pub returns-clause-best : goal.returns-clause-best
returns-clause-best c =
    let sorted = c.in_ok-sorted.sorted.rows in
    let rows = c.args.rows.rows in
    IfOk-weaker c.best_of.result (λ best. AreBest sorted best.rows) (λ best. AreBest rows best.rows)
    (λ best. best-same sorted rows best.rows c.in_ok-sorted.ensures.same.same) c.best_of.ensures.best
