use Rattle.match_relations.proofs.MaskLaws.{take_one, take_two}
use Rattle.match_relations.proofs.masks.with_masks.Goals as goal

pub returns-clause-masks : goal.returns-clause-masks
returns-clause-masks c = λ masks are.
    let first = take_one c.args.pool.now c.take-first_mask.new.self c.side_bits.result c.take-first_mask.result masks c.side_bits.ensures.low c.take-first_mask.ensures.bits
    c.take-first_mask.ensures.live c.take-first_mask.ensures.full c.take-first_mask.ensures.apart c.take-first_mask.ensures.others are in
    let second = take_one c.take-first_mask.new.self c.take-second_mask.new.self c.side_bits-2.result c.take-second_mask.result _ c.side_bits-2.ensures.low c.take-second_mask.ensures.bits
    c.take-second_mask.ensures.live c.take-second_mask.ensures.full c.take-second_mask.ensures.apart c.take-second_mask.ensures.others first in
    rw c.new.ensures (take_two c.take-second_mask.new.self masks c.take-first_mask.result c.take-second_mask.result second)
