use Rattle.std.proofs.Common.{arith, ◌+◌, ◌≤◌, [], ◌∷◌, length-append}
use Rattle.std.proofs.Math.Nat.{mul-le-mul_left}
use Rattle.mask_pool.specs.Mask.{words_for}
use Rattle.match_relations.proofs.MaskLaws.{take_one, one_more_bits}
use Rattle.match_relations.proofs.masks.take_work.Goals as goal

pub take-requires : goal.take-requires
take-requires c =
    let next : c.loop.counter + 1 ≤ c.args.count = omega arith in
    let more = mul-le-mul_left (words_for c.args.bits) next in
    omega (arith, more, c.requires.room, c.loop.invariant.3)

pub loop-preserved : goal.loop-preserved
loop-preserved c =
    rw c.in_ok-push.ensures.ok (
      omega (arith, length-append c.loop.work (c.take.result ∷ []), c.loop.invariant.0),
      one_more_bits c.args.bits c.loop.work c.take.result c.loop.invariant.1 c.take.ensures.bits,
      take_one c.loop.pool c.take.new.self c.args.bits c.take.result c.loop.work c.requires.low c.take.ensures.bits c.take.ensures.live c.take.ensures.full c.take.ensures.apart c.take.ensures.others c.loop.invariant.2,
      omega (arith, c.take.ensures.spare, c.loop.invariant.3),
    )
