use Rattle.std.proofs.Common.{length, ap, arith}
use Rattle.byte_tables.specs.Numbers.{numbers_in}
use Rattle.index_file.proofs.TableLaws.{length-pieces_at}
use Rattle.index_file.proofs.table.PieceTable.get.Goals as goal

pub piece_at-requires-clause-within : goal.piece_at-requires-clause-within
piece_at-requires-clause-within c =
    omega (arith, length-pieces_at (numbers_in c.self.inside.starts.now) c.self.inside.bytes.now c.self.invariant.0, ap length c.self.view_is)
