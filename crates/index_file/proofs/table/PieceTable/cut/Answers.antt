use Rattle.std.proofs.Common.{length, arith, rules}
use Rattle.index_file.proofs.TableLaws.{whole_fits}
use Rattle.index_file.proofs.table.PieceTable.cut.Goals as goal

pub returns-then-bytes-clause-some : goal.returns-then-bytes-clause-some
returns-then-bytes-clause-some c = (
  λ never. absurd (search rules),
  λ cut.
      let fits = whole_fits (length c.args.bytes.now) c.args.starts.now (λ i. omega (arith, c.type_inv.starts i)) cut in
      absurd (omega arith),
)
