use Rattle.index_image.proofs.PieceWriterLaws.{PutsPieces-one, put_bytes}
use Rattle.index_image.proofs.piece_writer.PieceWriter.push.Goals as goal

pub returns : goal.returns
returns c =
    let put = put_bytes c.args.self.now c.self.inside.table c.self.inside.next c.self.inside.left c.self.inside.bytes.items c.args.piece.now _ c.self.invariant c.self.view_is c.in_ok-extend_from_slice.ensures.items in
    PutsPieces-one c.args.self.now _ c.end_piece.new.self c.args.piece.now c.requires.some put c.end_piece.ensures
