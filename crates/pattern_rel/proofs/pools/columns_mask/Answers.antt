use Rattle.std.proofs.Common.{◌∙◌}
use Rattle.mask_pool.proofs.Loans.{words_of-with_words}
use Rattle.pattern_rel.proofs.pools.columns_mask.Goals as goal

pub returns-clause-kept : goal.returns-clause-kept
returns-clause-kept c =
    rw (words_of-with_words c.args.pool.now c.args.into c.fold_columns.new.into c.requires.into.live (c.fold_columns.ensures.same_length ∙ c.pair-words.ensures.into_len))
    (rw (c.pair-words.ensures.into_len, c.pair-words.ensures.other) at c.fold_columns.ensures.folded)
