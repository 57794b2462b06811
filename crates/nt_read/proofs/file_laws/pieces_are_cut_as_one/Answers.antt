use Rattle.nt_read.proofs.Pieces.{pieces-cut}
use Rattle.nt_read.proofs.file_laws.pieces_are_cut_as_one.Goals as goal

pub returns : goal.returns
returns c = pieces-cut
