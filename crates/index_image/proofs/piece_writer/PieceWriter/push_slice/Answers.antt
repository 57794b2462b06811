use Rattle.index_file.specs.Image.{pair_slice}
use Rattle.index_image.proofs.PieceWriterLaws.{PutsPieces-one, put_bytes}
use Rattle.index_image.proofs.piece_writer.PieceWriter.push_slice.Goals as goal

pub returns : goal.returns
returns c =
    let slice = pair_slice c.args.form c.args.pairs.now in
    let put = put_bytes c.args.self.now c.self.inside.table c.self.inside.next c.self.inside.left c.self.inside.bytes.items slice _ c.self.invariant c.self.view_is c.in_ok-append_pairs.ensures.written in
    PutsPieces-one c.args.self.now _ c.end_piece.new.self slice c.requires.some put c.end_piece.ensures
