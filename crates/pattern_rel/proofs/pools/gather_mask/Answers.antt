use Rattle.std.proofs.Common.{◌∙◌}
use Rattle.mask_pool.proofs.Loans.{words_of-with_words}
use Rattle.pattern_rel.proofs.pools.gather_mask.Goals as goal

pub returns-clause-gathered : goal.returns-clause-gathered
returns-clause-gathered c =
    rw (words_of-with_words c.args.pool.now c.args.into c.gather.new.into c.requires.into.live (c.gather.ensures.same_length ∙ c.pair-words.ensures.into_len))
    (rw (c.pair-words.ensures.into_len, c.pair-words.ensures.into, c.pair-words.ensures.other) at c.gather.ensures.gathered)
