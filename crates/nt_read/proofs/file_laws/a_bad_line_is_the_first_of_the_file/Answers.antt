use Rattle.nt_read.proofs.FedPieces.{found_for_good}
use Rattle.nt_read.proofs.file_laws.a_bad_line_is_the_first_of_the_file.Goals as goal

pub returns : goal.returns
returns c = found_for_good
