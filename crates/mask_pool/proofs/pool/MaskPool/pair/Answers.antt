use Rattle.std.proofs.Common.{◌≡◌, ◌∙◌, ◌-◌, ap, refl, length, take, drop, slice_range, arith}
use Rattle.std.proofs.lemmas.List.{take_rest}
use Rattle.mask_pool.specs.Loan.{with_words}
use Rattle.mask_pool.specs.Mask.{end_of}
use Rattle.mask_pool.specs.Region.{words_of}
use Rattle.mask_pool.proofs.Loans.{length-words_of}
use Rattle.mask_pool.proofs.PartLaws.{range-back}
use Rattle.mask_pool.proofs.pool.MaskPool.pair.Goals as goal

pub returns-then-end-start : goal.returns-then-end-start
returns-then-end-start c =
    let old = c.args.self.now in
    let into = c.args.into in
    let other = c.args.other in
    let parts = c.front_beside-lent.ensures.parts in
    let after = c.front_beside-lent.result.1.now in
    let skipped = c.start-then-end-start-2.result - c.end-then-end-start-3.result in
    let lent : c.front_beside-lent.result.0.now ≡ words_of old into = cc in
    let behind : after ≡ slice_range old.words (end_of into) (end_of other) = cc in
    let cut = range-back old.words after (end_of into) other.start (end_of other) behind (omega arith) (omega arith) c.requires.other_live in
    let same : skipped ≡ other.start - end_of into = omega arith in
    let read : take (length after - skipped) (drop skipped after) ≡ words_of old other = take_rest after skipped ∙ (ap (λ k. drop k after) same ∙ cut) in (
      (refl, λ w. ap (λ start. with_words old start w) c.start-then-end-start.ensures),
      record {
        writes_back = tt;
        into = lent;
        into_len = ap length lent ∙ length-words_of old into c.requires.into_live;
        other = read;
        other_len = ap length read ∙ length-words_of old other c.requires.other_live;
      },
    )
