use Rattle.pattern_rel.specs.Left.{pairs_left}
use Rattle.multiway_join.specs.steps.Cursor.{coming}
use Rattle.multiway_join.proofs.Agreement.{asked_all, asked_left}
use Rattle.multiway_join.proofs.cursor.agreeing_with.Goals as goal

pub returns-clause-left : goal.returns-clause-left
returns-clause-left c = asked_left (pairs_left c.args.prepared.now.pool c.args.entry.now.rel) (coming c.asked_for.result) c.asked_at-first.result c.asked_at-second.result c.asked_for.ensures

pub returns-clause-same : goal.returns-clause-same
returns-clause-same c =
    asked_all c.args.prepared.now c.args.entry.now c.args.row.now (pairs_left c.args.prepared.now.pool c.args.entry.now.rel) (coming c.asked_for.result) c.asked_at-first.result c.asked_at-second.result c.asked_at-first.ensures c.asked_at-second.ensures c.asked_for.ensures
