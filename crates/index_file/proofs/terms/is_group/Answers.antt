use Rattle.std.proofs.Common.{refl, rules, arith}
use Rattle.index_file.proofs.TermOrderLaws.{group_follows, follow_step, follow_nothing}
use Rattle.index_file.proofs.terms.is_group.Goals as goal

pub returns-then-not-follows : goal.returns-then-not-follows
returns-then-not-follows c =
    let step = follow_step c.args.kind c.loop-i.before.now c.get-text.result.now _ _ c.get-text.ensures.at in
    (λ never. absurd (search rules), λ group. let held = c.follows.ensures.1 (step.0 (c.loop-i.invariant.0 ((group_follows c.args.kind c.args.texts.now).0 group))).0 in absurd cc)

pub loop-i-preserved : goal.loop-i-preserved
loop-i-preserved c =
    let step = follow_step c.args.kind c.loop-i.before.now c.get-text.result.now _ _ c.get-text.ensures.at in
    let held = c.follows.ensures.0 (search rules) in
    (λ follow. (step.0 (c.loop-i.invariant.0 follow)).1, λ follow. c.loop-i.invariant.1 (step.1 (held, follow)))

pub returns : goal.returns
returns c =
    let past = follow_nothing c.args.kind c.loop-i.before.now c.loop-i.i c.args.texts.now (omega (arith, c.len-i-end.ensures, c.loop-i-test.false)) in
    (λ _. (group_follows c.args.kind c.args.texts.now).1 (c.loop-i.invariant.1 past), λ _. refl)
