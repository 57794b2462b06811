use Rattle.mask_pool.proofs.OverlapLaws.{one_ends_first, no_word, apart_by_words}
use Rattle.mask_pool.proofs.laws.one_ends_before_the_other.Goals as goal

pub returns : goal.returns
returns c = record { ends = one_ends_first; apart = no_word; only = apart_by_words }
