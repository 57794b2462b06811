use Rattle.std.proofs.Common.{◌+◌, count_ones, ap, ◌∙◌, sym, get_or, arith}
use Rattle.std.proofs.lemmas.Nat.{ones-le}
use Rattle.std.proofs.lemmas.List.Sums.{sum_by_more}
use Rattle.row_lanes.proofs.words.ones.Goals as goal

pub loop-word-preserved : goal.loop-word-preserved
loop-word-preserved c =
    let words = c.args.words.now in
    let i = c.loop-word.word-index in
    let few = ones-le 64 (get_or words i 0) (omega (arith, c.type_inv.words i)) in
    (ap (λ n. n + count_ones (get_or words i 0)) c.loop-word.invariant.0 ∙ sym (sum_by_more count_ones words i 0 c.loop-word-test.true), omega (arith, few, c.loop-word.invariant.1))
