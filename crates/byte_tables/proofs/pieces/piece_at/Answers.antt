use Rattle.std.proofs.Common.{sym, ap, ◌∙◌, ◌+◌, ◌∷◌, drop, arith}
use Rattle.byte_tables.specs.Numbers.{numbers_in}
use Rattle.byte_tables.specs.Pieces.{pieces_at}
use Rattle.byte_tables.proofs.NumberLaws.{length-numbers_in-le}
use Rattle.byte_tables.proofs.PieceLaws.{IsPieceOf-read}
use Rattle.byte_tables.proofs.pieces.piece_at.Goals as goal

pub number_at-requires : goal.number_at-requires
number_at-requires c = omega (arith, length-numbers_in-le c.args.starts.now)

pub overflow_add-i : goal.overflow_add-i
overflow_add-i c = omega (arith, length-numbers_in-le c.args.starts.now)

pub number_at-requires-2 : goal.number_at-requires-2
number_at-requires-2 c = omega (arith, length-numbers_in-le c.args.starts.now)

pub between-requires-clause-ordered : goal.between-requires-clause-ordered
between-requires-clause-ordered c =
    let there = IsPieceOf-read _ _ _ _ _ c.requires.cut c.number_at.ensures c.number_at-2.ensures in
    omega arith

pub between-requires-clause-within : goal.between-requires-clause-within
between-requires-clause-within c =
    let there = IsPieceOf-read _ _ _ _ _ c.requires.cut c.number_at.ensures c.number_at-2.ensures in
    omega arith

pub returns : goal.returns
returns c =
    let starts = numbers_in c.args.starts.now in
    let there = IsPieceOf-read _ _ _ starts _ c.requires.cut c.number_at.ensures c.number_at-2.ensures in
    there.piece ∙ ap (λ bs. bs ∷ drop (c.args.i + 1) (pieces_at starts c.args.bytes.now)) (sym c.between.ensures)
