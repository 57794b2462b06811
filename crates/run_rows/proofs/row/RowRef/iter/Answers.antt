use Rattle.std.proofs.Common.{◌-◌, ◌^◌, rules}
use Rattle.run_rows.proofs.RowLaws.{increasing_row}
use Rattle.run_rows.proofs.row.RowRef.iter.Goals as goal

pub returns-clause-ascending : goal.returns-clause-ascending
returns-clause-ascending c = increasing_row (2 ^ 32 - 1) c.args.self.now (search rules)
