use Rattle.std.proofs.Common.{◌+◌, ◌-◌, true, false, arith, sym, subst}
use Rattle.null_best.specs.steps.Searches.{IsWindow}
use Rattle.null_best.proofs.Orders.{tested-row}
use Rattle.null_best.proofs.Windows.{whole, narrow-from, narrow-until}
use Rattle.null_best.proofs.search.before.Goals as goal
use Rattle.null_best.proofs.search.before.Goals.{then-near-group, else-near-group}

pub loop-step-init : goal.loop-step-init
loop-step-init c =
    let all = whole c.args.keys.now c.args.group.now c.requires.ascends c.requires.group c.args.cut.now in (
      omega arith,
      elim c.if-near-group.branch [
        | then-near-group w ↦ subst (IsWindow c.args.keys.now c.args.group.now c.args.cut.now c.args.group.now.start) (sym w.high-is)
            (narrow-until c.args.keys.now c.args.group.now c.requires.ascends c.requires.group c.args.cut.now c.args.group.now.start c.args.group.now.end all c.args.near c.requires.from w.if-near-group.true (c.requires.after w.if-near-group.true))
        | else-near-group w ↦ subst (IsWindow c.args.keys.now c.args.group.now c.args.cut.now c.args.group.now.start) (sym w.high-is) all
      ],
    )

pub returns-then-precedes : goal.returns-then-precedes
returns-then-precedes c =
    let at = c.loop-step.high - 1 - c.loop-step.step in
    let test = tested-row c.args.keys.now at c.index-keys-probe.result c.args.cut.now c.precedes.result true (omega (arith, c.requires.group.binds.within, c.loop-step.invariant.1.to)) c.index-keys-probe.is c.precedes.ensures c.if-precedes.true in
    narrow-from c.args.keys.now c.args.group.now c.requires.ascends c.requires.group c.args.cut.now c.args.group.now.start c.loop-step.high c.loop-step.invariant.1 at (omega arith) (omega arith) test

pub loop-step-preserved : goal.loop-step-preserved
loop-step-preserved c =
    let at = c.loop-step.high - 1 - c.loop-step.step in
    let test = tested-row c.args.keys.now at c.index-keys-probe.result c.args.cut.now c.precedes.result false (omega (arith, c.requires.group.binds.within, c.loop-step.invariant.1.to)) c.index-keys-probe.is c.precedes.ensures c.if-precedes.false in (
      omega (arith, c.loop-step.invariant.0, c.saturating_mul-step.ensures),
      narrow-until c.args.keys.now c.args.group.now c.requires.ascends c.requires.group c.args.cut.now c.args.group.now.start c.loop-step.high c.loop-step.invariant.1 at (omega arith) (omega arith) test,
    )
