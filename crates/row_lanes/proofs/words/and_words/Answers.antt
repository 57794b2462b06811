use Rattle.std.proofs.Common.{◌≤◌, ◌⊎◌, inl, inr, length, arith}
use Rattle.std.proofs.lemmas.Bool.{cases_lt}
use Rattle.row_lanes.proofs.AndLaws.{and_words_from}
use Rattle.row_lanes.proofs.words.and_words.Goals as goal

pub returns : goal.returns
returns c =
    let shared = c.min-shared.result in
    let ends : (length c.args.into.now ≤ shared) ⊎ (length c.args.other.now ≤ shared) = elim (cases_lt (length c.args.into.now) (length c.args.other.now)) [ inl lt ↦ inl (omega arith) | inr le ↦ inr (omega arith) ] in
    and_words_from _ shared c.args.into.now c.args.other.now c.and_blocks.new.into c.and_between.new.into c.zero_from.new.into (omega arith) ends c.and_blocks.ensures c.and_between.ensures c.zero_from.ensures
