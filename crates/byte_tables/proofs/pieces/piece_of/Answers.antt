use Rattle.std.proofs.Common.{sym, ap, ◌∙◌, ◌+◌, ◌∷◌, drop, arith}
use Rattle.byte_tables.specs.Pieces.{pieces_at}
use Rattle.byte_tables.proofs.PieceLaws.{IsPieceOf-indexed}
use Rattle.byte_tables.proofs.pieces.piece_of.Goals as goal

pub between-requires-clause-ordered : goal.between-requires-clause-ordered
between-requires-clause-ordered c =
    let there = IsPieceOf-indexed c.args.i c.args.starts.now c.args.bytes.now c.requires.cut c.requires.within in
    omega arith

pub between-requires-clause-within : goal.between-requires-clause-within
between-requires-clause-within c =
    let there = IsPieceOf-indexed c.args.i c.args.starts.now c.args.bytes.now c.requires.cut c.requires.within in
    omega arith

pub returns : goal.returns
returns c =
    let there = IsPieceOf-indexed c.args.i c.args.starts.now c.args.bytes.now c.requires.cut c.requires.within in
    there.piece ∙ ap (λ bs. bs ∷ drop (c.args.i + 1) (pieces_at c.args.starts.now c.args.bytes.now)) (sym c.between.ensures)
