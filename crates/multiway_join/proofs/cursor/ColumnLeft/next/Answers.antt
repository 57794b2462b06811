use Rattle.std.proofs.Common.{◌≡◌, ◌∷◌, [], ◌-◌, ◌^◌, ◌∙◌, MatchOption, sym, subst}
use Rattle.pattern_rel.specs.Left.{pairs_left}
use Rattle.multiway_join.specs.steps.Cursor.{at_second}
use Rattle.multiway_join.proofs.Wanted.{asked_none, asked_some}
use Rattle.multiway_join.proofs.cursor.ColumnLeft.next.Goals as goal

pub returns-in_err-pair : goal.returns-in_err-pair
returns-in_err-pair c =
    subst (λ o. MatchOption o (c.args.self.now ≡ []) (λ pair. c.args.self.now ≡ pair ∷ c.args.self.now)) (sym c.from_residual.ensures)
    (sym c.self.view_is ∙ asked_none (at_second c.self.inside.second) c.self.inside.last (pairs_left c.self.inside.pool.now c.self.inside.rel.now) (sym c.in_err-pair.was ∙ c.next.ensures))

pub returns : goal.returns
returns c =
    sym c.self.view_is
    ∙ asked_some (2 ^ 32 - 1) (2 ^ 32 - 1) (at_second c.self.inside.second) c.self.inside.last (pairs_left c.self.inside.pool.now c.self.inside.rel.now) c.in_ok-pair.pair c.pairs_ascend.ensures (sym c.in_ok-pair.was ∙ c.next.ensures)
