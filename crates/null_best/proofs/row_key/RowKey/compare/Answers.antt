use Rattle.std.proofs.Common.{◌≡◌, subst}
use Rattle.null_best.specs.steps.Keys.{key_cmp}
use Rattle.null_best.proofs.Orders.{compare-heads}
use Rattle.null_best.proofs.row_key.RowKey.compare.Goals as goal

pub returns-in_default-cmp : goal.returns-in_default-cmp
returns-in_default-cmp c =
    let order = c.cmp-in-Equal.result in
    subst (λ other. order ≡ key_cmp c.args.self.now other) c.other.view_is
    (subst (λ row. order ≡ key_cmp row c.other.inside.cells.now) c.self.view_is
    (compare-heads c.self.inside.cells.now c.other.inside.cells.now c.self.inside.vars c.self.inside.head c.other.inside.vars c.other.inside.head
    c.cmp.result order c.self.invariant c.other.invariant c.cmp.ensures c.in-Equal.is c.cmp-in-Equal.ensures c.in_default-cmp.not-Equal))
