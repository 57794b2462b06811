use Rattle.std.proofs.Common.{◌+◌, true, false, arith}
use Rattle.null_best.proofs.Orders.{tested-row}
use Rattle.null_best.proofs.Windows.{whole, narrow-from, narrow-until}
use Rattle.null_best.proofs.search.after.Goals as goal

pub loop-step-init : goal.loop-step-init
loop-step-init c = (
  omega arith,
  c.requires.below,
  narrow-from c.args.keys.now c.args.group.now c.requires.ascends c.requires.group c.args.cut.now c.args.group.now.start c.args.group.now.end
      (whole c.args.keys.now c.args.group.now c.requires.ascends c.requires.group c.args.cut.now) c.args.near c.requires.from c.requires.below c.requires.before,
)

pub returns-then-not-precedes : goal.returns-then-not-precedes
returns-then-not-precedes c =
    let at = c.loop-step.low + c.loop-step.step in
    let test = tested-row c.args.keys.now at c.index-keys-probe.result c.args.cut.now c.precedes.result false (omega (arith, c.requires.group.binds.within)) c.index-keys-probe.is c.precedes.ensures c.if-not-precedes.true in
    narrow-until c.args.keys.now c.args.group.now c.requires.ascends c.requires.group c.args.cut.now c.loop-step.low c.args.group.now.end c.loop-step.invariant.2 at (omega arith) (omega arith) test

pub loop-step-preserved : goal.loop-step-preserved
loop-step-preserved c =
    let at = c.loop-step.low + c.loop-step.step in
    let test = tested-row c.args.keys.now at c.index-keys-probe.result c.args.cut.now c.precedes.result true (omega (arith, c.requires.group.binds.within)) c.index-keys-probe.is c.precedes.ensures c.if-not-precedes.false in (
      omega (arith, c.loop-step.invariant.0, c.saturating_mul-step.ensures),
      omega arith,
      narrow-from c.args.keys.now c.args.group.now c.requires.ascends c.requires.group c.args.cut.now c.loop-step.low c.args.group.now.end c.loop-step.invariant.2 at (omega arith) (omega arith) test,
    )
