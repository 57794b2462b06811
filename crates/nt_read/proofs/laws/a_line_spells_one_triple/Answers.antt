use Rattle.nt_read.proofs.LineLaws.{one_triple}
use Rattle.nt_read.proofs.laws.a_line_spells_one_triple.Goals as goal

pub returns : goal.returns
returns c = one_triple
