use Rattle.bm_term.proofs.Taking.{after_all-append}
use Rattle.bm_term.proofs.laws.lists_are_taken_in_a_row.Goals as goal

pub returns : goal.returns
returns c = after_all-append
