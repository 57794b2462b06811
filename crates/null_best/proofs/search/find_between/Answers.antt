use Rattle.std.proofs.Common.{◌+◌, ◌-◌, ◌/◌, arith, ap}
use Rattle.std.specs.declared.cmp.Ordering.TheVariants.{Less, Equal, Greater}
use Rattle.std.specs.Ordering.{is_lt}
use Rattle.null_best.specs.steps.Groups.{row_at}
use Rattle.null_best.proofs.Orders.{compared-row, key_cmp-exact}
use Rattle.null_best.proofs.Windows.{narrow-after, narrow-before}
use Rattle.null_best.proofs.search.find_between.Goals as goal

pub returns-in-Equal : goal.returns-in-Equal
returns-in-Equal c =
    let at = c.loop-low.low + (c.loop-low.high - c.loop-low.low) / 2 in
    let order = compared-row c.args.keys.now at c.index-keys-middle.result c.args.cut.now c.compare.result Equal (omega (arith, c.requires.group.binds.within, c.loop-low.invariant.to)) c.index-keys-middle.is c.compare.ensures c.in-Equal.is in
    record {
      place = record { from = omega (arith, c.loop-low.invariant.from); below = omega (arith, c.loop-low.invariant.to) };
      cells_are = key_cmp-exact (row_at c.args.keys.now at) c.args.cut.now order;
    }

pub loop-low-preserved-in-Less : goal.loop-low-preserved-in-Less
loop-low-preserved-in-Less c =
    let at = c.loop-low.low + (c.loop-low.high - c.loop-low.low) / 2 in
    let order = compared-row c.args.keys.now at c.index-keys-middle.result c.args.cut.now c.compare.result Less (omega (arith, c.requires.group.binds.within, c.loop-low.invariant.to)) c.index-keys-middle.is c.compare.ensures c.in-Less.is in
    narrow-after c.args.keys.now c.args.group.now c.requires.ascends c.requires.group c.args.cut.now c.loop-low.low c.loop-low.high c.loop-low.invariant at (omega arith) (omega arith) (ap is_lt order)

pub loop-low-preserved : goal.loop-low-preserved
loop-low-preserved c =
    let at = c.loop-low.low + (c.loop-low.high - c.loop-low.low) / 2 in
    let order = compared-row c.args.keys.now at c.index-keys-middle.result c.args.cut.now c.compare.result Greater (omega (arith, c.requires.group.binds.within, c.loop-low.invariant.to)) c.index-keys-middle.is c.compare.ensures c.in-Greater.is in
    narrow-before c.args.keys.now c.args.group.now c.requires.ascends c.requires.group c.args.cut.now c.loop-low.low c.loop-low.high c.loop-low.invariant at (omega arith) (omega arith) order
