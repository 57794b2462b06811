use Rattle.nt_read.proofs.LineLaws.{not_both}
use Rattle.nt_read.proofs.laws.a_triple_is_something.Goals as goal

pub returns : goal.returns
returns c = not_both
