use Rattle.nt_read.proofs.FedPieces.{new_read}
use Rattle.nt_read.proofs.reader.Reader.new.Goals as goal

pub returns-clause-read : goal.returns-clause-read
returns-clause-read c = rw c.new.ensures.items new_read
