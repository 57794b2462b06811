use Rattle.nt_read.proofs.FirstBad.{first_bad-none}
use Rattle.nt_read.proofs.file_laws.no_first_bad_is_no_bad_line.Goals as goal

pub returns : goal.returns
returns c = first_bad-none
