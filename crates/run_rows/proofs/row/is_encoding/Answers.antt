use Rattle.std.proofs.Common.{arith}
use Rattle.std.proofs.lemmas.Bool.Decides.{nat_tests}
use Rattle.run_rows.proofs.EncodingLaws.{runs_from_encoding, encoding_from_runs}
use Rattle.run_rows.proofs.row.is_encoding.Goals as goal

pub returns-then-not-is_empty : goal.returns-then-not-is_empty
returns-then-not-is_empty c = (
  λ runs. encoding_from_runs _ _ _ (grind (arith, nat_tests)) (c.are_runs.ensures.0 runs),
  λ encoding. c.are_runs.ensures.1 (runs_from_encoding _ _ _ encoding (omega arith)).1,
)

pub returns-else-not-is_empty : goal.returns-else-not-is_empty
returns-else-not-is_empty c = (
  λ some. absurd (grind (arith, nat_tests)),
  λ encoding. let some = (runs_from_encoding _ _ _ encoding (omega arith)).0 in absurd (grind (arith, nat_tests)),
)
