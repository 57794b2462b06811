use Rattle.std.proofs.Common.{arith}
use Rattle.pattern_rel.specs.declared.side.Side.TheVariants.{First, Second}
use Rattle.mask_steps.proofs.MeasureLaws.{bits_more, counted, few_words}
use Rattle.mask_steps.proofs.OwnLaws.{own_usable}
use Rattle.mask_steps.proofs.steps.bits.Goals as goal

pub read-requires : goal.read-requires
read-requires c = rw c.mask.ensures ((own_usable c.args.prepared.now c.requires c.loop-i.i c.get.result.now c.get.ensures First).live)

pub count-first-requires : goal.count-first-requires
count-first-requires c = few_words c.args.prepared.now.pool _ _ _ c.mask.ensures c.read.ensures.len (own_usable c.args.prepared.now c.requires c.loop-i.i c.get.result.now c.get.ensures First)

pub read-requires-in-loop-i : goal.read-requires-in-loop-i
read-requires-in-loop-i c = rw c.mask-in-loop-i.ensures ((own_usable c.args.prepared.now c.requires c.loop-i.i c.get.result.now c.get.ensures Second).live)

pub count-second-requires : goal.count-second-requires
count-second-requires c = few_words c.args.prepared.now.pool _ _ _ c.mask-in-loop-i.ensures c.read-in-loop-i.ensures.len (own_usable c.args.prepared.now c.requires c.loop-i.i c.get.result.now c.get.ensures Second)

pub loop-i-preserved : goal.loop-i-preserved
loop-i-preserved c = (
  bits_more c.args.prepared.now c.loop-i.i c.get.result.now c.loop-i.total c.count-first.result c.count-second.result c.get.ensures c.loop-i.invariant.0
      (counted c.args.prepared.now.pool _ _ _ _ c.mask.ensures c.read.ensures.words c.count-first.ensures)
      (counted c.args.prepared.now.pool _ _ _ _ c.mask-in-loop-i.ensures c.read-in-loop-i.ensures.words c.count-second.ensures),
  omega (arith, c.loop-i.invariant.1),
)
