use Rattle.std.proofs.Common.{◌↔◌, sym, subst, Contains}
use Rattle.join_graph.specs.declared.steps.Step.TheVariants.{Pattern, Variable}
use Rattle.pruning_laws.specs.Passes.{reduce}
use Rattle.mask_steps.specs.Held.{HasValue, GivesAt}
use Rattle.prune_plan.specs.steps.Members.{is_left_of, held_by, agrees_in}
use Rattle.prune_plan.proofs.Layouts.{in_order_same, in_order_one, lists_same}
use Rattle.prune_plan.proofs.Reductions.{gathered, spread_out}
use Rattle.prune_plan.proofs.passes.reduce.Goals as goal

pub returns-in-Pattern-Variable-clause-held : goal.returns-in-Pattern-Variable-clause-held
returns-in-Pattern-Variable-clause-held c = λ m i.
    let old = c.args.prepared.now in
    let kinds = c.args.kinds.now in
    let new = c.gather.new.prepared in
    let place = c.in-Pattern-Variable.place in
    let var = c.in-Pattern-Variable.var in
    subst (λ by. held_by new c.gather.new.kinds m i ↔ reduce (agrees_in old) by c.args.member (held_by old kinds) m i) (sym c.in-Pattern-Variable.is-0)
    (subst (λ member. held_by new c.gather.new.kinds m i ↔ reduce (agrees_in old) (Pattern place) member (held_by old kinds) m i) (sym c.in-Pattern-Variable.is-1)
    (gathered (GivesAt old) (is_left_of old) (is_left_of new) (HasValue old kinds) (HasValue new c.gather.new.kinds) place var (lists_same old new c.gather.ensures.lists) c.gather.ensures.values
    (λ w x apart. c.gather.ensures.others w x apart) m i))

pub returns-in-Pattern-Variable-clause-in_order : goal.returns-in-Pattern-Variable-clause-in_order
returns-in-Pattern-Variable-clause-in_order c = in_order_same c.args.prepared.now c.gather.new.prepared c.gather.ensures.lists

pub returns-in-Variable-Pattern-clause-held : goal.returns-in-Variable-Pattern-clause-held
returns-in-Variable-Pattern-clause-held c = λ m i.
    let old = c.args.prepared.now in
    let kinds = c.args.kinds.now in
    let new = c.spread.new.prepared in
    let place = c.in-Variable-Pattern.place in
    let var = c.in-Variable-Pattern.var in
    subst (λ by. held_by new kinds m i ↔ reduce (agrees_in old) by c.args.member (held_by old kinds) m i) (sym c.in-Variable-Pattern.is-0)
    (subst (λ member. held_by new kinds m i ↔ reduce (agrees_in old) (Variable var) member (held_by old kinds) m i) (sym c.in-Variable-Pattern.is-1)
    (spread_out (GivesAt old) (is_left_of old) (is_left_of new) (HasValue old kinds) (HasValue new kinds) place var c.spread.ensures.values c.spread.ensures.left
    (λ j t apart. (λ at. subst (λ l. Contains l t) (c.spread.ensures.others j apart) at, λ at. subst (λ l. Contains l t) (sym (c.spread.ensures.others j apart)) at)) m i))

pub returns-in-Variable-Pattern-clause-in_order : goal.returns-in-Variable-Pattern-clause-in_order
returns-in-Variable-Pattern-clause-in_order c =
    in_order_one c.args.prepared.now c.spread.new.prepared c.in-Variable-Pattern.place c.spread.ensures.in_order c.spread.ensures.others
