use Rattle.std.proofs.Common.{Some, ap, rules, arith}
use Rattle.run_rows.proofs.EncodingLaws.{row_numbers-encodes, IsEncoding-from_encodes, Encodes-wider}
use Rattle.run_rows.proofs.row.check.Goals as goal

pub returns-then-not-is_encoding-clause-only : goal.returns-then-not-is_encoding-clause-only
returns-then-not-is_encoding-clause-only c xs encodes =
    let answer = c.is_encoding.ensures.1 (IsEncoding-from_encodes _ _ _ xs encodes (omega arith)) in
    absurd (cc)

pub invariant_of-result : goal.invariant_of-result
invariant_of-result c = Encodes-wider _ c.args.columns _ _ _ (omega arith) (search rules)

pub returns-clause-only : goal.returns-clause-only
returns-clause-only c xs encodes = ap Some (row_numbers-encodes _ _ _ xs encodes (omega arith))
