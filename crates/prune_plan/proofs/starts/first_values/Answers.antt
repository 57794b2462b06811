use Rattle.std.proofs.Common.{sym, ◌∙◌, arith}
use Rattle.prune_plan.proofs.FirstValues.{all_values, first_of_level, first_of_parent, first_of_root, in_vars}
use Rattle.prune_plan.proofs.starts.first_values.Goals as goal

pub gather_once-requires-clause-parent : goal.gather_once-requires-clause-parent
gather_once-requires-clause-parent c =
    let parent = c.in-Some.parent in
    let low = c.parent_of.ensures.before parent ((c.parent_of.ensures.parent parent).1 c.in-Some.is) in
    omega (arith, low, c.requires.node)

pub gather_parent-requires-clause-parent : goal.gather_parent-requires-clause-parent
gather_parent-requires-clause-parent c =
    let parent = c.in-Some.parent in
    let low = c.parent_of.ensures.before parent ((c.parent_of.ensures.parent parent).1 c.in-Some.is) in
    omega (arith, low, c.requires.node)

pub returns-then-once-clause-values : goal.returns-then-once-clause-values
returns-then-once-clause-values c = λ scene is i v x edge.
    let tree = c.args.tree.now in
    let old = c.args.prepared.now in
    let parent = c.in-Some.parent in
    let hangs = (c.parent_of.ensures.parent parent).1 c.in-Some.is in
    first_of_level tree old c.args.node parent hangs (c.requires.level c.if-once.true parent hangs scene is) c.new-kinds.result c.gather_once.new.kinds c.gather_once.new.prepared v x
    (c.gather_once.ensures.values v (in_vars tree c.args.node c.vars-wanted.result c.vars-wanted.ensures i v edge)) (all_values old c.new-kinds.result v x (c.new-kinds.ensures v))

pub returns-else-once-clause-values : goal.returns-else-once-clause-values
returns-else-once-clause-values c = λ scene is i v x edge.
    let tree = c.args.tree.now in
    let old = c.args.prepared.now in
    let parent = c.in-Some.parent in
    let hangs = (c.parent_of.ensures.parent parent).1 c.in-Some.is in
    first_of_parent tree old c.args.node parent hangs v x (c.gather_parent.ensures.values v x (in_vars tree c.args.node c.vars-wanted.result c.vars-wanted.ensures i v edge)) (all_values old c.new-kinds.result v x (c.new-kinds.ensures v))

pub returns-in_default-clause-values : goal.returns-in_default-clause-values
returns-in_default-clause-values c = λ scene is i v x edge.
    first_of_root c.args.tree.now c.args.prepared.now c.args.node (λ parent hangs. (let told = sym c.in_default.is ∙ (c.parent_of.ensures.parent parent).0 hangs in cc)) v x (all_values c.args.prepared.now c.new-kinds.result v x (c.new-kinds.ensures v))
