use Rattle.std.proofs.Common.{◌≡◌, ◌/◌, ◌%◌, ◌-◌, ◌<◌, length, replicate, refl, ap, arith, get_or-set_same}
use Rattle.std.proofs.lemmas.Grind.{common_steps, elements, one_shifted}
use Rattle.mask_pool.proofs.FullLaws.{full_law}
use Rattle.mask_pool.proofs.words.fill.Goals as goal

pub returns-then-bits-gt0 : goal.returns-then-bits-gt0
returns-then-bits-gt0 c =
    let ones : c.fill.new.self ≡ replicate (length c.args.words.now) 18446744073709551615 = c.fill.ensures.after (λ y same. same) in
    let inside : c.args.bits / 64 < length c.fill.new.self = omega arith in
    full_law _ c.args.bits (grind (arith, common_steps)) (λ k below. grind (arith, elements)) (λ some. rw get_or-set_same (ap (λ n. n - 1) (one_shifted (c.args.bits % 64) 18446744073709551615 refl (omega arith)).0))

pub returns-else-bits-gt0 : goal.returns-else-bits-gt0
returns-else-bits-gt0 c =
    let ones : c.fill.new.self ≡ replicate (length c.args.words.now) 18446744073709551615 = c.fill.ensures.after (λ y same. same) in
    full_law _ c.args.bits (grind (arith, common_steps)) (λ k below. grind (arith, elements)) (λ some. absurd (omega arith))
