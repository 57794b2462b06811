use Rattle.std.proofs.Common.{subst, sym, rules}
use Rattle.index_file.proofs.StepLaws.{goes_on, fails, LinesStand-first}
use Rattle.index_file.specs.steps.Rows.{LinesStand}
use Rattle.index_file.proofs.agreement.lines_stand.Goals as goal

pub loop-number-init : goal.loop-number-init
loop-number-init c = (λ are. are, λ are. are)

pub returns-then-not-columns_stand : goal.returns-then-not-columns_stand
returns-then-not-columns_stand c =
    let first = LinesStand-first c.args.n c.args.others.now _ _ _ c.in-Some.ensures.first in
    (λ never. absurd (search rules), λ are. absurd (fails c.loop-number.invariant first (λ is. let test = c.columns_stand.ensures.1 is in absurd (cc)) are))

pub loop-number-preserved : goal.loop-number-preserved
loop-number-preserved c =
    let first = LinesStand-first c.args.n c.args.others.now _ _ _ c.in-Some.ensures.first in
    goes_on c.loop-number.invariant first (c.columns_stand.ensures.0 (search rules))

pub returns : goal.returns
returns c =
    (λ _. c.loop-number.invariant.1 (subst (LinesStand c.args.n c.args.others.now) (sym c.in_default.ensures.none) tt), λ _. search rules)
