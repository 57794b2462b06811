use Rattle.std.proofs.Common.{arith}
use Rattle.std.proofs.lemmas.Grind.{common_steps}
use Rattle.nt_read.proofs.Pieces.{ends_with_last}
use Rattle.nt_read.proofs.reader.ends_with_carriage_return.Goals as goal

pub returns-in-Some : goal.returns-in-Some
returns-in-Some c = grind (arith, common_steps, ends_with_last c.args.was c.args.bytes.now)
