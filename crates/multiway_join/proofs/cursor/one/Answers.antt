use Rattle.std.proofs.Common.{◌-◌, ◌^◌, ◌∙◌, sym}
use Rattle.pattern_rel.specs.Left.{pairs_left}
use Rattle.multiway_join.proofs.Wanted.{none_asked, one_asked}
use Rattle.multiway_join.proofs.cursor.one.Goals as goal

pub returns-in-Some : goal.returns-in-Some
returns-in-Some c =
    one_asked (2 ^ 32 - 1) (2 ^ 32 - 1) c.args.first c.args.second (pairs_left c.args.pool.now c.args.rel.now) c.in-Some.pair c.pairs_ascend.ensures (sym c.in-Some.is ∙ c.next.ensures)

pub returns-in-None : goal.returns-in-None
returns-in-None c = none_asked c.args.first c.args.second (pairs_left c.args.pool.now c.args.rel.now) (sym c.in-None.is ∙ c.next.ensures)
