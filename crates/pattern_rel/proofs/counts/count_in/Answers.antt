use Rattle.std.proofs.Common.{arith, ap, length}
use Rattle.pattern_rel.specs.steps.Sets.{partner_numbers}
use Rattle.pattern_rel.proofs.LeftLaws.{those_all}
use Rattle.pattern_rel.proofs.counts.count_in.Goals as goal

pub loop-number-init : goal.loop-number-init
loop-number-init c = (omega (arith, ap length (those_all c.args.words.now (partner_numbers c.args.partners.now))), omega arith, omega arith)

pub loop-number-preserved : goal.loop-number-preserved
loop-number-preserved c =
    let more = ap length c.in-Some.ensures.first in
    let inv = c.loop-number.invariant in
    (omega (arith, inv.0), omega (arith, inv.1, c.in-Some.ensures.up), omega (arith, c.in-Some.ensures.within))

pub loop-number-smaller : goal.loop-number-smaller
loop-number-smaller c = omega (arith, c.in-Some.ensures.up, c.in-Some.ensures.within)

pub returns : goal.returns
returns c = let none = ap length c.in_default.ensures.none in omega (arith, c.loop-number.invariant.0)
