use Rattle.nt_read.proofs.Cuts.{AreLines-lines_of}
use Rattle.nt_read.proofs.file_laws.lines_stand_between_line_ends.Goals as goal

pub returns : goal.returns
returns c = AreLines-lines_of
