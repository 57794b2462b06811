use Rattle.std.proofs.Common.{length, ap, arith}
use Rattle.index_file.proofs.SlicePairLaws.{bytes_of_pieces}
use Rattle.index_file.proofs.TableLaws.{starts_of_table}
use Rattle.index_file.proofs.table.PieceTable.len.Goals as goal

pub overflow_sub-result : goal.overflow_sub-result
overflow_sub-result c =
    omega (arith, starts_of_table c.self.inside.starts.now c.self.inside.bytes.now c.self.invariant.0)

pub returns-clause-count : goal.returns-clause-count
returns-clause-count c =
    omega (arith, starts_of_table c.self.inside.starts.now c.self.inside.bytes.now c.self.invariant.0, ap length c.self.view_is)

pub returns-clause-bytes : goal.returns-clause-bytes
returns-clause-bytes c = rw (← c.self.view_is) (bytes_of_pieces _ _ c.self.invariant.1)
