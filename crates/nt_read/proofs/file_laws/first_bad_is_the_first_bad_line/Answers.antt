use Rattle.nt_read.proofs.FirstBad.{first_bad-found}
use Rattle.nt_read.proofs.file_laws.first_bad_is_the_first_bad_line.Goals as goal

pub returns : goal.returns
returns c = first_bad-found
