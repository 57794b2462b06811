use Rattle.std.proofs.Common.{ℕ, List, [], ◌∷◌, length, take, ap, arith, length-append, subst}
use Rattle.byte_tables.specs.Pieces.{joined}
use Rattle.term_numbers.specs.Numbering.{term_table}
use Rattle.index_image.specs.steps.Writing.{PutsPieces}
use Rattle.index_image.proofs.MeasureLaws.{texts_fit, texts_put}
use Rattle.index_image.proofs.PieceWriterLaws.{PutsPieces-none}
use Rattle.index_image.proofs.writing.push_texts.Goals as goal

pub loop-place-init : goal.loop-place-init
loop-place-init c = PutsPieces-none c.args.into.now

pub push-requires-clause-short : goal.push-requires-clause-short
push-requires-clause-short c =
    let table = term_table c.args.numbers.now.terms in
    let fits = texts_fit table c.loop-place.place _ c.term.ensures in
    let long = ap length c.bytes.ensures.text in
    omega (arith, fits, long, ap length c.loop-place.invariant.pieces, length-append c.args.into.now.pieces (joined (take c.loop-place.place table)), c.requires.short)

pub loop-place-preserved : goal.loop-place-preserved
loop-place-preserved c =
    texts_put c.args.into.now c.loop-place.into c.push.new.self (term_table c.args.numbers.now.terms) c.loop-place.place _ c.term.ensures c.loop-place.invariant
    (subst (λ (b : List ℕ). PutsPieces c.loop-place.into c.push.new.self (b ∷ [])) c.bytes.ensures.text c.in_ok-push.ensures)
