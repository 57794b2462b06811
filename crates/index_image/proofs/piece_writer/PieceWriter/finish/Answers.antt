use Rattle.index_image.proofs.PieceWriterLaws.{written_bytes}
use Rattle.index_image.proofs.piece_writer.PieceWriter.finish.Goals as goal

pub returns : goal.returns
returns c = written_bytes c.args.self c.self.inside.table c.self.inside.next c.self.inside.left c.self.inside.bytes.items c.self.invariant c.self.view_is c.requires
