use Rattle.nt_read.proofs.Pieces.{pieces-lines}
use Rattle.nt_read.proofs.file_laws.pieces_have_the_lines_of_the_whole.Goals as goal

pub returns : goal.returns
returns c = pieces-lines
