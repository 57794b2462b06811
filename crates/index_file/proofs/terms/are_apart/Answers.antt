use Rattle.std.proofs.Common.{refl, sym, rules, arith}
use Rattle.index_file.proofs.TermOrderLaws.{apart_past_left, apart_past_right, pass_left, pass_right, never_apart}
use Rattle.index_file.proofs.terms.are_apart.Goals as goal

pub loop-i-preserved-in-Less : goal.loop-i-preserved-in-Less
loop-i-preserved-in-Less c =
    let step = pass_left c.loop-i.i c.loop-i.j _ _ c.args.one.now c.args.other.now c.requires.other_ascends c.get.ensures.at c.get-in-loop-i.ensures.at (sym c.in-Less.ensures) in
    (λ apart. step.0 (c.loop-i.invariant.0 apart), λ apart. c.loop-i.invariant.1 (step.1 apart))

pub loop-i-preserved : goal.loop-i-preserved
loop-i-preserved c =
    let step = pass_right c.loop-i.i c.loop-i.j _ _ c.args.one.now c.args.other.now c.requires.one_ascends c.get.ensures.at c.get-in-loop-i.ensures.at (sym c.in-Greater.ensures) in
    (λ apart. step.0 (c.loop-i.invariant.0 apart), λ apart. c.loop-i.invariant.1 (step.1 apart))

pub returns-in-Equal : goal.returns-in-Equal
returns-in-Equal c =
    (λ never. absurd (search rules), λ apart. absurd (never_apart c.loop-i.i c.loop-i.j _ _ c.args.one.now c.args.other.now c.get.ensures.at c.get-in-loop-i.ensures.at (sym c.in-Equal.ensures) (c.loop-i.invariant.0 apart)))

pub returns-else-j-len : goal.returns-else-j-len
returns-else-j-len c =
    let past = apart_past_right c.loop-i.j _ c.args.other.now (omega (arith, c.len-in-loop-i.ensures, c.if-j-len.false)) in
    (λ _. c.loop-i.invariant.1 past, λ _. refl)

pub returns-after-loop-i : goal.returns-after-loop-i
returns-after-loop-i c =
    let past = apart_past_left c.loop-i.i c.args.one.now _ (omega (arith, c.len.ensures, c.loop-i-test.false)) in
    (λ _. c.loop-i.invariant.1 past, λ _. refl)
