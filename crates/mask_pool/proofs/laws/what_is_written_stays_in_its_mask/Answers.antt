use Rattle.mask_pool.proofs.Loans.{wrote}
use Rattle.mask_pool.proofs.laws.what_is_written_stays_in_its_mask.Goals as goal

pub returns : goal.returns
returns c = wrote
