use Rattle.bm_term.proofs.Taking.{after_all-unlimited}
use Rattle.bm_term.proofs.laws.all_is_kept_without_a_limit.Goals as goal

pub returns : goal.returns
returns c = after_all-unlimited
