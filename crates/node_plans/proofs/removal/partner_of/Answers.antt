use Rattle.std.proofs.Common.{◌≡◌, ◌+◌, Some, None, true, drop, sym, ◌∙◌, subst, arith}
use Rattle.std.proofs.lemmas.Option.{get_or_from_slice_get}
use Rattle.pruning_laws.specs.Passes.{partner}
use Rattle.pruning_laws.specs.TreePasses.{are_near}
use Rattle.node_plans.proofs.Partners.{partner_later, partner_here, partner_none}
use Rattle.node_plans.proofs.removal.partner_of.Goals as goal

pub returns-then-are_near : goal.returns-then-are_near
returns-then-are_near c = λ d.
    let steps = c.args.order.now.steps in
    let near = are_near c.args.sets.now c.step-step.result in
    let here = get_or_from_slice_get steps c.args.i c.step-step.result d c.step-step.ensures in
    let is : near c.step-other.result ≡ true = sym c.are_near.ensures ∙ c.if-are_near.true in
    subst (λ m. Some c.step-other.result ≡ partner (are_near c.args.sets.now m) (drop (c.args.i + 1) steps)) (sym here)
    (sym (c.loop-j.invariant ∙ partner_here near steps c.loop-j.j c.step-other.result c.step-other.ensures is))

pub loop-j-preserved : goal.loop-j-preserved
loop-j-preserved c =
    let near = are_near c.args.sets.now c.step-step.result in
    c.loop-j.invariant ∙ partner_later near c.args.order.now.steps c.loop-j.j c.step-other.result c.step-other.ensures (sym c.are_near.ensures ∙ c.if-are_near.false)

pub returns : goal.returns
returns c = λ d.
    let steps = c.args.order.now.steps in
    let near = are_near c.args.sets.now c.step-step.result in
    let here = get_or_from_slice_get steps c.args.i c.step-step.result d c.step-step.ensures in
    subst (λ m. None ≡ partner (are_near c.args.sets.now m) (drop (c.args.i + 1) steps)) (sym here)
    (sym (c.loop-j.invariant ∙ partner_none near steps c.loop-j.j (omega arith)))
