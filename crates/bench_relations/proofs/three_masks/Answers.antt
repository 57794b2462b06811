use Rattle.std.proofs.Common.{arith}
use Rattle.bench_relations.proofs.three_masks.Goals as goal

pub returns-clause-can : goal.returns-clause-can
returns-clause-can c =
    let first_live = (c.take-second.ensures.others _ c.take-first.ensures.live).live in
    let second_live = c.take-second.ensures.live in
    let first_apart = c.take-into.ensures.apart _ first_live in
    let second_apart = c.take-into.ensures.apart _ second_live in
    record {
      first = record { live = (c.take-into.ensures.others _ first_live).live; few = omega (arith, c.take-first.ensures.bits) };
      second = record { live = (c.take-into.ensures.others _ second_live).live; few = omega (arith, c.take-second.ensures.bits) };
      into = record { live = c.take-into.ensures.live; few = omega (arith, c.take-into.ensures.bits) };
      first_apart = omega (arith, first_apart);
      second_apart = omega (arith, second_apart);
    }
