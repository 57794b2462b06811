use Rattle.std.proofs.Common.{◌≡◌, ◌+◌, ◌≤◌, ◌++◌, Some, None, length, drop, get_or, sym, ◌∙◌, ap, arith}
use Rattle.std.proofs.lemmas.List.{length_push}
use Rattle.std.proofs.lemmas.Option.{get_or_from_slice_get, slice_get-get_or}
use Rattle.join_graph.specs.declared.steps.Step.TheVariants.{Pattern}
use Rattle.pruning_laws.specs.Passes.{partner}
use Rattle.pruning_laws.specs.Plans.{pairs_by}
use Rattle.pruning_laws.specs.TreePasses.{are_near}
use Rattle.node_plans.proofs.Partners.{pairs_some, pairs_none}
use Rattle.node_plans.proofs.removal.removal_pairs.Goals as goal
use Rattle.node_plans.proofs.removal.removal_pairs.Goals.{in-Some, in_default}

pub loop-i-preserved : goal.loop-i-preserved
loop-i-preserved c =
    let sets = c.args.sets.now in
    let steps = c.args.order.now.steps in
    let i = c.loop-i.i in
    elim c.match-partner_of.branch as (λ _. (c.match-partner_of.pairs ++ pairs_by sets (drop (i + 1) steps) ≡ pairs_by sets steps) × (length c.match-partner_of.pairs ≤ i + 1)) [
      | in-Some w ↦
          let m = w.step.result in
          let here = get_or_from_slice_get steps i m m w.step.ensures in
          let found : Some w.in-Some.other ≡ partner (are_near sets m) (drop (i + 1) steps) = sym w.in-Some.is ∙ c.partner_of.ensures m ∙ ap (λ n. partner (are_near sets n) (drop (i + 1) steps)) here in (
            pairs_some (are_near sets) steps i m w.in-Some.other c.loop-i.pairs c.match-partner_of.pairs (pairs_by sets steps) w.step.ensures found (w.pairs-is ∙ w.push.ensures) c.loop-i.invariant.0,
            omega (arith, ap length (w.pairs-is ∙ w.push.ensures), length_push c.loop-i.pairs (m, w.in-Some.other)),
          )
      | in_default w ↦
          let m = get_or steps i (Pattern 0) in
          let found : None ≡ partner (are_near sets m) (drop (i + 1) steps) = sym w.in_default.is ∙ c.partner_of.ensures (Pattern 0) in (
            ap (λ pairs. pairs ++ pairs_by sets (drop (i + 1) steps)) w.pairs-is ∙ pairs_none (are_near sets) steps i m c.loop-i.pairs (pairs_by sets steps) (slice_get-get_or steps i (Pattern 0) (omega arith)) found c.loop-i.invariant.0,
            omega (arith, ap length w.pairs-is),
          )
    ]
