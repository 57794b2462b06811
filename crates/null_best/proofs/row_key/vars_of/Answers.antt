use Rattle.std.proofs.Common.{◌≡◌, ◌<◌, ◌+◌, ◌-◌, ◌*◌, ◌^◌, drop, get_or, arith, sym, ◌∙◌, ap}
use Rattle.null_best.specs.steps.Keys.{bit_of, bound_set}
use Rattle.null_best.proofs.Cuts.{bound_set-end, bound_set-step, bound_set-fits}
use Rattle.null_best.proofs.row_key.vars_of.Goals as goal

pub loop-k-init : goal.loop-k-init
loop-k-init c = (omega arith, bound_set-end c.args.cells.now)

pub overflow_mul-vars : goal.overflow_mul-vars
overflow_mul-vars c =
    let step = bound_set-step c.args.cells.now c.loop-k.k (omega arith) c.loop-k.invariant.0 in
    let fits = bound_set-fits c.args.cells.now (c.loop-k.k - 1) c.requires in
    let is : c.loop-k.vars ≡ bound_set (drop c.loop-k.k c.args.cells.now) = c.loop-k.invariant.1 in
    omega arith

pub overflow_add-vars : goal.overflow_add-vars
overflow_add-vars c =
    let step = bound_set-step c.args.cells.now c.loop-k.k (omega arith) c.loop-k.invariant.0 in
    let fits = bound_set-fits c.args.cells.now (c.loop-k.k - 1) c.requires in
    let is : c.loop-k.vars ≡ bound_set (drop c.loop-k.k c.args.cells.now) = c.loop-k.invariant.1 in
    let bit = c.bit_of.ensures in
    omega arith

pub loop-k-preserved : goal.loop-k-preserved
loop-k-preserved c =
    let step = bound_set-step c.args.cells.now c.loop-k.k (omega arith) c.loop-k.invariant.0 in
    let is : c.loop-k.vars ≡ bound_set (drop c.loop-k.k c.args.cells.now) = c.loop-k.invariant.1 in
    let bit = c.bit_of.ensures in
    (omega arith, omega arith)
