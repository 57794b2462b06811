use Rattle.std.proofs.Common.{◌-◌, ◌^◌}
use Rattle.pattern_rel.proofs.PairLaws.{first_left, second_left, turned_left, iff_then}
use Rattle.pattern_rel.proofs.relation.PatRel.fold.Goals as goal

pub returns-in-First-clause-folded : goal.returns-in-First-clause-folded
returns-in-First-clause-folded c = rw (← c.self.view_is, c.in-First.is) (λ n.
    iff_then (c.fold_side.ensures.folded n) (first_left (2 ^ 32 - 1) (2 ^ 32 - 1) _ _ _ c.lines_ascend.ensures n))

pub returns-in-Some-clause-folded : goal.returns-in-Some-clause-folded
returns-in-Some-clause-folded c = rw (← c.self.view_is, c.in-Second.is) (λ n.
    iff_then (c.fold_side-in-Some.ensures.folded n) (turned_left (2 ^ 32 - 1) (2 ^ 32 - 1) _ _ _ _ c.lines_ascend.ensures c.in-Some.ensures n))

pub returns-in-None-clause-folded : goal.returns-in-None-clause-folded
returns-in-None-clause-folded c = rw (← c.self.view_is, c.in-Second.is) (λ n.
    iff_then (c.fold_across.ensures.folded n) (second_left (2 ^ 32 - 1) (2 ^ 32 - 1) _ _ _ c.lines_ascend.ensures n))
