use Rattle.std.proofs.Common.{◌≡◌, ◌+◌, ◌-◌, ◌*◌, ◌++◌, length, take, drop, ap, ◌∙◌, arith, length-drop}
use Rattle.std.specs.Int.{w32, to_le_bytes}
use Rattle.index_image.proofs.PieceWriterLaws.{end_written}
use Rattle.index_image.proofs.piece_writer.PieceWriter.end_piece.Goals as goal

pub returns : goal.returns
returns c =
    let bytes = c.self.inside.bytes.items in
    let next = c.self.inside.next in
    let base = next + 4 * c.self.inside.left in
    let number = c.to_le_bytes.result in
    let end : c.len.result - base ≡ length (drop base bytes) = omega (arith, c.len.ensures, length-drop base bytes) in
    let number-is : number ≡ to_le_bytes w32 (length (drop base bytes)) = c.to_le_bytes.ensures ∙ ap (to_le_bytes w32) end in
    let four : length number ≡ 4 = ap length number-is in
    end_written c.args.self.now c.self.inside.table next c.self.inside.left bytes number c.overwrite.new.bytes.items c.self.invariant c.self.view_is c.requires.some number-is
    (c.overwrite.ensures ∙ ap (λ n. take next bytes ++ (number ++ drop (next + n) bytes)) four)
