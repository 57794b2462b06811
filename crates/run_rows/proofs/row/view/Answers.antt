use Rattle.std.proofs.Common.{arith}
use Rattle.run_rows.proofs.EncodingLaws.{Encodes-wider}
use Rattle.run_rows.proofs.row.view.Goals as goal

pub invariant_of-result : goal.invariant_of-result
invariant_of-result c = Encodes-wider _ c.args.columns _ _ _ (omega arith) c.requires
