use Rattle.std.proofs.Common.{◌≡◌, ◌∷◌, [], subst, ap, sym, ◌∙◌}
use Rattle.null_best.specs.steps.Groups.{AreGroupsBelow, BindSet, row_at}
use Rattle.null_best.specs.steps.Keys.{bound_set}
use Rattle.null_best.proofs.GroupSteps.{groups-step}
use Rattle.null_best.proofs.Orders.{read_row}
use Rattle.null_best.proofs.groups.groups_of.Goals as goal

pub loop-start-preserved : goal.loop-start-preserved
loop-start-preserved c =
    let end = c.group_end-end.result in
    let set : c.vars.result ≡ bound_set (row_at c.args.keys.now c.loop-start.start) =
    c.vars.ensures ∙ ap bound_set (sym (read_row c.args.keys.now c.loop-start.start c.index-keys-start.result c.loop-start-test.true c.index-keys-start.is)) in
    let binds : BindSet c.args.keys.now c.vars.result c.loop-start.start end =
    subst (λ vars. BindSet c.args.keys.now vars c.loop-start.start end) (sym set) c.group_end-end.ensures.same in (
      c.group_end-end.ensures.same.within,
      rw c.in_ok-push.ensures.items (groups-step c.args.keys.now c.loop-start.groups.items c.loop-start.start end c.vars.result c.loop-start.invariant.1 c.group_end-end.ensures.more binds),
    )
