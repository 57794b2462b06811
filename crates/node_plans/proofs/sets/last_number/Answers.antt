use Rattle.std.proofs.Common.{Contains, sym, subst, arith}
use Rattle.std.proofs.lemmas.List.{take_all}
use Rattle.std.proofs.lemmas.Option.{get_or_from_slice_get}
use Rattle.node_plans.specs.Placed.{IsPlaced}
use Rattle.node_plans.proofs.PlacedSets.{last_more}
use Rattle.node_plans.proofs.sets.last_number.Goals as goal
use Rattle.node_plans.proofs.sets.last_number.Goals.{then-last-number, else-last-number}

pub loop-i-preserved : goal.loop-i-preserved
loop-i-preserved c =
    let patterns = c.args.patterns.now in
    let i = c.loop-i.i in
    let one = c.get.result.now in
    let here = get_or_from_slice_get patterns i one one c.get.ensures in
    let low = (subst IsPlaced here (c.requires i one (omega arith))).low in
    let step = last_more patterns i one c.loop-i.last c.if-last-number.last c.loop-i.invariant.0 (omega arith) here in
    elim c.if-last-number.branch [
      | then-last-number w ↦ let is = w.last-is in let less = w.if-last-number.true in (step (omega arith) (omega arith), omega (arith, low))
      | else-last-number w ↦ let is = w.last-is in let not_less = w.if-last-number.false in (step (omega arith) (omega arith), omega (arith, low))
    ]

pub returns-clause-last : goal.returns-clause-last
returns-clause-last c = λ pattern at.
    c.loop-i.invariant.0 pattern (subst (λ list. Contains list pattern) (sym (take_all c.loop-i.i c.args.patterns.now (omega arith))) at)
